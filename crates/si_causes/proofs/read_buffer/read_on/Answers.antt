use Rattle.std.proofs.Common.{◌≡◌, ◌+◌, ◌-◌, ◌++◌, ℕ, List, length, take, drop, arith, ◌∙◌, ap, sym, slice_range, length-drop, Ok, Err, Result, IfOk, Option, ◌≤◌}
use Rattle.std.proofs.lemmas.Grind.{common_steps}
use Rattle.std.proofs.lemmas.List.{length-take-le}
use Rattle.std.specs.Io.KnownBytes.{Consumes}
use Rattle.si_causes.specs.Refilling.{ReadOn}
use Rattle.si_causes.proofs.Bytes.{read_behind}
use Rattle.si_causes.proofs.read_buffer.read_on.Goals as goal

-- the bytes that were read stand behind the others, whatever the result is
read_on : {E : Type 0} (a b : Option (List ℕ)) (held mid new : List ℕ) (front : ℕ) (result : Result ℕ E) → take front new ≡ take front mid → take front mid ≡ held
    → (most : ℕ) → front + most ≤ length new → IfOk result (λ n. n ≤ most)
    → IfOk result (λ n. Consumes a b (take n (drop front new))) → IfOk result (λ n. ReadOn a b held (take (front + n) new) n)
read_on a b held mid new front (Ok n) same is most room le c = (
  take n (drop front new),
  sym (length-take-le n (drop front new) (omega (arith, room, le, length-drop front new))),
  read_behind mid new front n same ∙ ap (λ t. t ++ take n (drop front new)) is,
  c,
)
read_on a b held mid new front (Err e) same is most room le c = tt

pub returns-clause-bytes : goal.returns-clause-bytes
returns-clause-bytes g c =
    read_on (g.S.Source.left c.args.source.now) (g.S.Source.left c.read_behind.new.source) (slice_range c.args.buffer.now c.args.start c.args.end)
    c.to_front.new.buffer c.read_behind.new.buffer (c.args.end - c.args.start) c.read_behind.result
    c.read_behind.ensures.front c.to_front.ensures.bytes c.args.most
    (omega (arith, c.requires.room, c.read_behind.ensures.length, c.to_front.ensures.length)) c.read_behind.ensures.count c.read_behind.ensures.bytes

pub returns-clause-kept : goal.returns-clause-kept
returns-clause-kept g c = grind (arith, common_steps)
