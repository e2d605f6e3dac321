-- What one word says: an entity's name, a role, a linked role, a number or a sign.
use Rattle.std.specs.Prelude.{◌≡◌, ℕ, ◌+◌, true, cond, ◌&&◌, List, [], ◌∷◌, ◌++◌, length, ℤ, Some, None, Option, FitsSigned, ◌==◌}
use Rattle.std.specs.Int.{w32}
use Rattle.std.specs.Fmt.{signed_decimal}
use Rattle.words.specs.Integer.{integer}
use Rattle.words.specs.Split.{Placed, split, placed}
use Rattle.words.specs.Cursor.{told}
use Rattle.book.specs.Names.{entity, role_name}
use Rattle.reader.specs.declared.tokens.Sign.{Sign}
use Rattle.reader.specs.declared.tokens.Sign.TheVariants.{Arrow, And, Colon}
use Rattle.reader.specs.declared.tokens.Token.{Token}
use Rattle.reader.specs.declared.tokens.Token.TheVariants as token

pub data Tok : Type 0 where
  one : Placed → Tok
  role : Placed → Placed → Tok
  link : Placed → Placed → Placed → Tok
  number : ℤ → Tok
  mark : Sign → Tok

-- what a token of the code says
abbrev pub said : Token → Tok
said (token.Entity a) = one (told a)
said (token.Role r) = role (told r.entity) (told r.name)
said (token.Link r s) = link (told r.entity) (told r.name) (told s)
said (token.Number n) = number n
said (token.Mark s) = mark s

-- `&` and `:`, and `<-`
abbrev pub sign_of : List ℕ → Option Sign
sign_of [] = None
sign_of (b ∷ []) = cond (b == 38) (Some And) (cond (b == 58) (Some Colon) None)
sign_of (b ∷ c ∷ []) = cond (b == 60 && c == 45) (Some Arrow) None
sign_of (b ∷ c ∷ d ∷ ds) = None

abbrev pub sign_or_number : Option Sign → Option ℤ → Option Tok
sign_or_number (Some s) n = Some (mark s)
sign_or_number None (Some n) = Some (number n)
sign_or_number None None = None

abbrev pub single : Placed → Option Tok
single a = cond (entity a.text) (Some (one a)) (sign_or_number (sign_of a.text) (integer a.text))

-- a word by its parts between dots
abbrev pub by_parts : List Placed → Option Tok
by_parts [] = None
by_parts (a ∷ []) = single a
by_parts (a ∷ r ∷ []) = cond (entity a.text && role_name r.text) (Some (role a r)) None
by_parts (a ∷ r ∷ s ∷ []) = cond (entity a.text && (role_name r.text && role_name s.text)) (Some (link a r s)) None
by_parts (a ∷ r ∷ s ∷ t ∷ ts) = None

abbrev pub token_of : Placed → Option Tok
token_of w = by_parts (placed w.byte (split 46 w.text))

abbrev pub sign_text : Sign → List ℕ
sign_text Arrow = 60 ∷ 45 ∷ []
sign_text And = 38 ∷ []
sign_text Colon = 58 ∷ []

-- the bytes of a token
abbrev pub text : Tok → List ℕ
text (one a) = a.text
text (role a r) = a.text ++ 46 ∷ r.text
text (link a r s) = a.text ++ 46 ∷ (r.text ++ 46 ∷ s.text)
text (number z) = signed_decimal z
text (mark s) = sign_text s

-- its names are names, and its number has 32 bits
abbrev pub Sound : Tok → Type 0
Sound (one a) = entity a.text ≡ true
Sound (role a r) = (entity a.text ≡ true) × (role_name r.text ≡ true)
Sound (link a r s) = (entity a.text ≡ true) × (role_name r.text ≡ true) × (role_name s.text ≡ true)
Sound (number z) = FitsSigned w32 z
Sound (mark s) = Unit {0}

-- the same token at the place n
abbrev pub moved : ℕ → Tok → Tok
moved n (one a) = one (record { byte = n; text = a.text })
moved n (role a r) = role (record { byte = n; text = a.text }) (record { byte = n + length a.text + 1; text = r.text })
moved n (link a r s) = link (record { byte = n; text = a.text }) (record { byte = n + length a.text + 1; text = r.text }) (record { byte = n + length a.text + 1 + length r.text + 1; text = s.text })
moved n (number z) = number z
moved n (mark s) = mark s

-- a word has the bytes of its token, and the bytes of a sound token are a word with that token
pub record Texts : Type 0 where
  pub back : (w : Placed) (t : Tok) → token_of w ≡ Some t → (text t ≡ w.text) × Sound t
  pub forth : (n : ℕ) (t : Tok) → Sound t → token_of (record { byte = n; text = text t }) ≡ Some (moved n t)
