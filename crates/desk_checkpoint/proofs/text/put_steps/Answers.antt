use Rattle.std.proofs.Common.{◌≡◌, ◌+◌, ◌++◌, ℕ, List, OnOk, ap, arith, append_assoc, subst, sym, ◌∙◌, true}
use Rattle.std.proofs.lemmas.Grind.{common_steps}
use Rattle.cycle_player.specs.Clock.{reads}
use Rattle.guide_model.specs.declared.guide.Guide.{Guide}
use Rattle.desk_core.specs.declared.airing.Airing.{Airing}
use Rattle.desk_core.specs.Journal.{publishes}
use Rattle.desk_core.specs.Lean.{stood_for}
use Rattle.desk_core.specs.Publications.{guide_after, publication}
use Rattle.desk_core.proofs.MomentFacts.{InRange, moment_range, written_steps}
use Rattle.journal_text.specs.Lines.{line_text}
use Rattle.journal_text.proofs.LineFacts.{behind}
use Rattle.desk_checkpoint.specs.Steps.{guide_steps, publication_steps}
use Rattle.desk_checkpoint.specs.Fields.{count_fields}
use Rattle.desk_checkpoint.specs.Text.{clock_text, edits_of, steps_text}
use Rattle.desk_checkpoint.proofs.TextFacts.{desk_text, published_range}
use Rattle.desk_checkpoint.proofs.text.put_steps.Goals as goal

pub put_latest-requires-clause-moment : goal.put_latest-requires-clause-moment
put_latest-requires-clause-moment c =
    let mux = c.args.desk.now.mux in
    let (journal, stands) = c.requires in
    let guide : c.latest-2.inside.guide.guide ≡ publication mux journal (publishes journal) = ap (λ (a : Airing). a.guide) (c.latest-2.view_is ∙ c.in_ok-latest.ensures.airing journal stands) in
    subst (λ (g : Guide). InRange g.moment) (sym guide) (published_range mux journal (publishes journal) stands.sound stands.steps)

pub put_guide-requires-clause-moment : goal.put_guide-requires-clause-moment
put_guide-requires-clause-moment c =
    let (journal, stands) = c.requires in
    subst (λ (g : Guide). InRange g.moment) (sym (c.in_ok-draft.ensures.guide journal stands))
    (moment_range c.args.desk.now.mux journal stands.sound (written_steps journal stands.steps))

pub returns : goal.returns
returns c = λ journal stands.
    let desk = stood_for journal c.args.desk.now in
    let shift = c.args.shift in
    let out = c.args.out.now.items in
    let count = publishes journal in
    let latest = c.latest-2.view_is ∙ c.in_ok-latest.ensures.airing journal stands in
    let sum : c.in_ok-count.count ≡ shift + c.latest-2.inside.number = grind (arith, common_steps) in
    let number : c.in_ok-count.count ≡ shift + count = sum ∙ ap (λ (a : Airing). shift + a.number) latest in
    let guide : c.latest-2.inside.guide.guide ≡ publication desk.mux journal count = ap (λ (a : Airing). a.guide) latest in
    let head = line_text (count_fields (shift + count)) ++ clock_text desk.mux.rate (reads c.args.clock) in
    let made = steps_text (publication_steps desk.mux (shift + count) (publication desk.mux journal count)) in
    let draft = steps_text (guide_steps (edits_of true) desk.mux (guide_after desk.mux journal)) in
    let first : c.put_head.new.out.items ≡ out ++ head =
    c.in_ok-put_head.ensures ∙ (λ k. out ++ (line_text (count_fields (number k)) ++ clock_text (c.mux-mux.ensures.value k).rate (reads c.args.clock))) in
    let second : c.put_latest.new.out.items ≡ out ++ (head ++ made) =
    c.in_ok-put_latest.ensures ∙ (λ k. first k ++ steps_text (publication_steps (c.mux-mux.ensures.value k) (number k) (guide k))) ∙ append_assoc out head made in
    let same : steps_text (guide_steps (edits_of true) c.mux-mux.result.now c.in_ok-draft.draft) ≡ draft =
    (λ k. steps_text (guide_steps (edits_of true) (c.mux-mux.ensures.value k) (c.in_ok-draft.ensures.guide journal stands k))) in
    let whole = behind c.put_guide.result out (head ++ made) draft (steps_text (guide_steps (edits_of true) c.mux-mux.result.now c.in_ok-draft.draft))
    c.put_latest.new.out.items c.put_guide.new.out.items second same c.put_guide.ensures in
    subst (λ (t : List ℕ). OnOk c.put_guide.result (c.put_guide.new.out.items ≡ out ++ t))
    (append_assoc head made draft ∙ ap (λ (t : List ℕ). head ++ t) (sym (desk_text shift desk))) whole
