use Rattle.std.proofs.Common.{sym, refl, eqb-true, ◌∙◌}
use Rattle.section_codec.specs.Segments.{segment_of}
use Rattle.sub_collect.specs.Runs.{counted, segment_last_of, run_of}
use Rattle.sub_collect.specs.Collectors.{body_in, last_in}
use Rattle.sub_collect.specs.Slots.{kept_by}
use Rattle.sub_collect.proofs.Taking.{repeat-kept, repeat-shows, repeat-test, repeat-passes, held-in, in-held}
use Rattle.sub_collect.proofs.collector.KeySlot.repeats.Goals as goal

pub returns-then-self-header-clause-held : goal.returns-then-self-header-clause-held
returns-then-self-header-clause-held c = λ heard latest is.
    let s = counted c.args.key c.args.header.now c.args.body.now in
    let kept = (kept_by c.args.self.now).run in
    let lasts = last_in kept.lasts (segment_of s.number) in
    let told = segment_last_of s in
    let body = body_in s.number kept.held in (
      λ held.
          let test = repeat-test kept.last s.last lasts told body s.body (sym c.repeats.ensures ∙ held) in
          held-in (run_of heard) s kept is.run (sym c.if-self-header.true) test.0 test.1 test.2,
      λ held.
          let parts = in-held (run_of heard) s kept is.run held in
          c.repeats.ensures ∙ repeat-passes kept.last s.last lasts told body s.body parts.1 parts.2 parts.3,
    )

pub returns-then-self-header-clause-repeated : goal.returns-then-self-header-clause-repeated
returns-then-self-header-clause-repeated c = λ held.
    let s = counted c.args.key c.args.header.now c.args.body.now in
    let kept = kept_by c.args.self.now in
    let test = repeat-test kept.run.last s.last (last_in kept.run.lasts (segment_of s.number)) (segment_last_of s) (body_in s.number kept.run.held) s.body (sym c.repeats.ensures ∙ held) in
    let version = sym c.if-self-header.true in
    record {
      quiet = λ heard latest is are. repeat-shows s.key heard latest are s refl kept is version test.0 test.1 test.2;
      stands = λ heard latest is are. repeat-kept s.key heard latest are s refl kept is version test.0 test.1 test.2;
    }

pub returns-else-self-header-clause-held : goal.returns-else-self-header-clause-held
returns-else-self-header-clause-held c = λ heard latest is.
    let s = counted c.args.key c.args.header.now c.args.body.now in (
      λ held. absurd (c.if-self-header.false (eqb-true c.args.self.now.run.version c.args.header.now.version held)),
      λ held. absurd (c.if-self-header.false (sym (in-held (run_of heard) s (kept_by c.args.self.now).run is.run held).0)),
    )
