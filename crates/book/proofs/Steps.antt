-- What holds of a plain book and of a call's effect on it holds after the call, refused or not.
use Rattle.book.specs.Plain.{Plain, Answer, numbered, at_place, refused, unless_refused}

pub after_call : (P : Plain → Type 0) (a : Answer) (before after : Plain) → P before → P after → P (unless_refused a before after)
after_call P (numbered j n) before after h k = k
after_call P (at_place n) before after h k = k
after_call P (refused n) before after h k = h
