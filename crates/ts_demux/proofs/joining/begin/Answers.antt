use Rattle.std.proofs.Common.{◌≡◌, ◌≢◌, ◌<◌, ◌++◌, ◌∷◌, [], List, ℕ, length, take, drop, map, sym, ap, ◌∙◌, arith, append_assoc}
use Rattle.std.specs.Prelude.{slice_index}
use Rattle.std.proofs.lemmas.Bool.Decides.{nat_tests}
use Rattle.ts_demux.specs.declared.headers.Reach.TheVariants.{Ends}
use Rattle.ts_demux.specs.declared.section.RawSection.{RawSection}
use Rattle.ts_demux.specs.Hearing.{begun}
use Rattle.ts_demux.specs.Sections.{on_pid}
use Rattle.ts_demux.specs.Steps.{left_open}
use Rattle.ts_demux.specs.Reaching.{reach_of}
use Rattle.ts_demux.proofs.Beginning.{begins_whole}
use Rattle.ts_demux.proofs.joining.begin.Goals as goal

pub sections-preserved : goal.sections-preserved
sections-preserved c =
    let bytes = c.sections.bytes.now in
    let n = c.in-Ends.size in
    let back = c.split_at.result.1.now in
    let on = map (on_pid c.args.pid) in
    let some : 0 < length bytes = grind (arith, nat_tests) in
    let other : slice_index bytes 0 ≢ 255 = grind (arith, nat_tests) in
    let reach : reach_of (bytes ++ []) ≡ Ends n = sym c.measure.ensures ∙ c.in-Ends.is in
    let step = begins_whole bytes n some other reach in
    let behind : back ≡ drop n bytes = c.split_at.ensures.back in
    let first : c.split_at.result.0.now ≡ take n bytes = c.split_at.ensures.front in
    let added : c.add_whole.new.sections.items ≡ c.sections.sections.items ++ on_pid c.args.pid (take n bytes) ∷ [] =
    c.in_ok-add_whole-in-Ends.ensures ∙ ap (λ (x : List ℕ). c.sections.sections.items ++ on_pid c.args.pid x ∷ []) first in
    record {
      given =
          ap (λ (x : List RawSection). x ++ on (begun (length back) back [])) added
          ∙ append_assoc c.sections.sections.items (on_pid c.args.pid (take n bytes) ∷ []) (on (begun (length back) back []))
          ∙ ap (λ (x : List ℕ). c.sections.sections.items ++ on (take n bytes ∷ begun (length x) x [])) behind
          ∙ ap (λ (x : List (List ℕ)). c.sections.sections.items ++ on x) (sym step.0)
          ∙ c.sections.invariant.given;
      left = ap (λ (x : List ℕ). left_open (length x) x) behind ∙ sym step.1 ∙ c.sections.invariant.left;
    }
