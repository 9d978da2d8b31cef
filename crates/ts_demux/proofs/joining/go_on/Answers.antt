use Rattle.std.proofs.Common.{◌≡◌, ℕ, ◌+◌, ◌-◌, ◌≤◌, ◌⊎◌, inl, inr, Bool, true, false, List, [], ◌∷◌, ◌++◌, Option, Some, length, take, map, sym, ap, ◌∙◌, subst, arith}
use Rattle.std.specs.Prelude.{IfOk, unwrap_or, if◌then◌else◌}
use Rattle.std.proofs.Math.Seq.{take-append-add}
use Rattle.std.proofs.lemmas.Bool.Decides.{nat_tests}
use Rattle.si_lists.proofs.Parts.{le_either}
use Rattle.ts_demux.specs.declared.headers.Reach.TheVariants.{Ends}
use Rattle.ts_demux.specs.Hearing.{size_in, is_whole}
use Rattle.ts_demux.specs.Keeping.{is_long}
use Rattle.ts_demux.specs.Reaching.{reach_of}
use Rattle.ts_demux.specs.Sections.{on_pid}
use Rattle.ts_demux.specs.Steps.{IsOpen, finished, finished_with}
use Rattle.ts_demux.proofs.Beginning.{ends_told, whole_some}
use Rattle.ts_demux.proofs.Heard.{size_in-append}
use Rattle.ts_demux.proofs.joining.go_on.Goals as goal

-- what is open with its header has fewer bytes than the section
unfinished : (x : List ℕ) → is_whole x ≡ false → is_long x ≡ false → 3 ≤ length x → length x ≤ size_in x
unfinished x w l three = grind (arith, nat_tests)

part_of : (x more : List ℕ) → IsOpen (Some x) → is_whole (x ++ more) ≡ true → length x ≤ size_in (x ++ more)
part_of x more is_open whole = go (le_either 3 (length x))
  where
    go : (3 ≤ length x) ⊎ (length x ≤ 3) → length x ≤ size_in (x ++ more)
    go (inl three) = omega (arith, size_in-append x more three, unfinished x is_open.0 is_open.1 three)
    go (inr few) = omega (arith, few, whole_some (x ++ more) whole)

-- the bytes that end a section stand behind those that are open
finished_part : (x more rest : List ℕ) (n : ℕ) → IsOpen (Some x) → reach_of (x ++ more) ≡ Ends n → rest ≡ take (n - length x) more
    → finished (x ++ more) ≡ (x ++ rest) ∷ []
finished_part x more rest n is_open e r =
    let told = ends_told (x ++ more) n e in
    let part = part_of x more is_open told.0 in
    let size : n ≡ size_in (x ++ more) = told.1 in
    let sum : n ≡ length x + (n - length x) = omega (arith, part, size) in
    ap (λ (w : Bool). if w then take (size_in (x ++ more)) (x ++ more) ∷ [] else []) told.0
    ∙ ap (λ (k : ℕ). take k (x ++ more) ∷ []) (sym size ∙ sum)
    ∙ ap (λ (t : List ℕ). t ∷ []) (take-append-add x more (n - length x) ∙ ap (λ (t : List ℕ). x ++ t) (sym r))

pub returns-in-Ends-clause-given : goal.returns-in-Ends-clause-given
returns-in-Ends-clause-given c =
    let bytes = c.in-Some.bytes in
    let payload = c.args.payload.now in
    let rest = c.split_at.result.0.now in
    let ends : reach_of (bytes ++ payload) ≡ Ends c.in-Ends.size =
    ap (λ (x : List ℕ). reach_of (x ++ payload)) (sym c.as_slice.ensures) ∙ sym c.measure.ensures ∙ c.in-Ends.is in
    let is_front : rest ≡ take (c.in-Ends.size - length bytes) payload =
    c.split_at.ensures.front ∙ ap (λ (k : ℕ). take (c.in-Ends.size - k) payload) c.len.ensures in
    let whole : finished_with c.args.section.now payload ≡ (unwrap_or c.args.section.now [] ++ rest) ∷ [] =
    subst (λ (o : Option (List ℕ)). finished_with o payload ≡ (unwrap_or o [] ++ rest) ∷ []) (sym c.in-Some.is)
    (finished_part bytes payload rest c.in-Ends.size (subst IsOpen c.in-Some.is c.requires.open) ends is_front) in
    subst (λ (l : List (List ℕ)). IfOk c.end_and_begin.result (λ sections. sections ≡ map (on_pid c.args.pid) l)) (sym whole) c.end_and_begin.ensures.given
