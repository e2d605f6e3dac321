use Rattle.std.proofs.Common.{◌≡◌, ◌++◌, take, IfSome, arith, subst, vec_items}
use Rattle.std.specs.Option.{option_map}
use Rattle.session.specs.Transcript.{lines, header, others, headed, answers, after, start}
use Rattle.session.specs.Roster.{in_force}
use Rattle.session.proofs.Inputs.{cut, alike}
use Rattle.session.proofs.input.read_input.Goals as goal

pub returns : goal.returns
returns g c =
    let known = g.R.Read.remaining c.args.reader in
    let read = vec_items c.read_to_end.new.buf in
    let limit : c.take.result.limit ≡ 32769 = omega (arith, c.take.ensures.limit) in
    let left = subst (λ r. IfSome (option_map (take c.take.result.limit) (g.R.Read.remaining r)) (λ xs. read ≡ vec_items c.new-input.result ++ xs)) c.take.ensures.inner c.in_ok-read_to_end.ensures.bytes in
    let bytes = cut known c.take.result.limit read (vec_items c.new-input.result) limit c.new-input.ensures.items left in
    record {
      bytes = bytes;
      transcript = alike (λ l. headed (header (lines l)) (answers start (others (lines l)))) known read bytes;
      roster = alike (λ l. headed (header (lines l)) (in_force (after start (others (lines l))).book)) known read bytes;
    }
