use Rattle.std.proofs.Common.{◌+◌, ◌≡◌, ◌∙◌, ℕ, List, Option, Ok, sym, ap, subst, arith, take}
use Rattle.std.specs.Prelude.{string_bytes}
use Rattle.std.proofs.lemmas.List.{length-map}
use Rattle.si_causes.specs.Causes.{Rose}
use Rattle.si_causes.proofs.CauseFacts.{Rose-from}
use Rattle.command_words.specs.Commands.{texts}
use Rattle.epg_live.specs.Opened.{HasTried, NoneFailed}
use Rattle.epg_live.proofs.OpenFacts.{all_opened, next_opened, next_tried, opened_sound}
use Rattle.epg_live.proofs.feeds.open_feeds.Goals as goal

pub returns-clause-opened : goal.returns-clause-opened
returns-clause-opened g c =
    let both = all_opened c.args.paths.now c.loop-path.path-index g.O.From.Source.left g.O.From.Source.faults (g.O.Opener.files c.args.opener.now) (g.O.Opener.tried c.args.opener.now) (g.O.Opener.tried c.loop-path.opener) c.loop-path.feeds.items
    (omega (arith, c.loop-path-test.false)) c.loop-path.invariant.opened c.loop-path.invariant.tried in
    record { opened = both.0; tried = both.1 }

pub returns-in_default-clause-stopped : goal.returns-in_default-clause-stopped
returns-in_default-clause-stopped g c = (
  c.loop-path.path-index + 1,
  next_tried c.args.paths.now c.loop-path.path-index c.path-item.result c.as_str.result.now c.loop-path-test.true c.path-item.is c.as_str.ensures.value
      (g.O.Opener.tried c.args.opener.now) (g.O.Opener.tried c.loop-path.opener) (g.O.Opener.tried c.open_feed.new.opener) c.loop-path.invariant.tried c.open_feed.ensures.tried,
)

pub returns-then-not-opened-clause-stopped : goal.returns-then-not-opened-clause-stopped
returns-then-not-opened-clause-stopped g c =
    let paths = c.args.paths.now in
    let i = c.loop-path.path-index in
    let feed : i + 1 ≡ c.loop-path.feed + 1 = ap (λ (n : ℕ). n + 1) (sym c.loop-path.invariant.count) in (
      omega arith,
      omega (arith, c.loop-path.invariant.count, c.loop-path-test.true, length-map paths string_bytes),
      subst (λ (n : ℕ). HasTried (g.O.Opener.tried c.args.opener.now) (g.O.Opener.tried c.close_feeds.new.opener) (take n (texts paths))) feed
          (subst (λ (o : Option (List (List ℕ))). HasTried (g.O.Opener.tried c.args.opener.now) o (take (i + 1) (texts paths))) (sym c.close_feeds.ensures.tried)
          (next_tried paths i c.path-item.result c.as_str.result.now c.loop-path-test.true c.path-item.is c.as_str.ensures.value
          (g.O.Opener.tried c.args.opener.now) (g.O.Opener.tried c.loop-path.opener) (g.O.Opener.tried c.open_feed.new.opener) c.loop-path.invariant.tried c.open_feed.ensures.tried)),
      subst (λ (n : ℕ). Rose (g.O.Opener.faults c.args.opener.now) n) (sym c.close_feeds.ensures.faults)
          (Rose-from (g.O.Opener.faults c.args.opener.now) (g.O.Opener.faults c.loop-path.opener) (g.O.Opener.faults c.open_feed.new.opener) c.loop-path.invariant.later
          (c.open_feed.ensures.failed (c.in-Ok.is ∙ ap Ok c.if-not-opened.true))),
    )

pub returns-then-not-opened-clause-read_faults : goal.returns-then-not-opened-clause-read_faults
returns-then-not-opened-clause-read_faults g c =
    let readers = c.open_feed.new.feeds.items in
    let sound : NoneFailed g.O.From.Source.faults readers = subst (λ rs. NoneFailed g.O.From.Source.faults rs) (sym (c.open_feed.ensures.kept (c.in-Ok.is ∙ ap Ok c.if-not-opened.true)))
    (opened_sound g.O.From.Source.left g.O.From.Source.faults (g.O.Opener.files c.args.opener.now) (take c.loop-path.path-index (texts c.args.paths.now)) c.loop-path.feeds.items c.loop-path.invariant.opened) in
    c.close_feeds.ensures.closes.kept sound ∙ c.open_feed.ensures.read_faults ∙ c.loop-path.invariant.read_faults

pub loop-path-preserved : goal.loop-path-preserved
loop-path-preserved g c =
    let i = c.loop-path.invariant in
    record {
      count = ap (λ (n : ℕ). n + 1) i.count;
      opened = next_opened c.args.paths.now c.loop-path.path-index c.path-item.result c.as_str.result.now c.loop-path-test.true c.path-item.is c.as_str.ensures.value
          g.O.From.Source.left g.O.From.Source.faults (g.O.Opener.files c.args.opener.now) (g.O.Opener.files c.loop-path.opener) c.loop-path.feeds.items c.open_feed.new.feeds.items i.files i.opened
          (c.open_feed.ensures.opened (c.in-Ok.is ∙ ap Ok c.if-not-opened.false));
      tried = next_tried c.args.paths.now c.loop-path.path-index c.path-item.result c.as_str.result.now c.loop-path-test.true c.path-item.is c.as_str.ensures.value
          (g.O.Opener.tried c.args.opener.now) (g.O.Opener.tried c.loop-path.opener) (g.O.Opener.tried c.open_feed.new.opener) i.tried c.open_feed.ensures.tried;
      files = c.open_feed.ensures.files ∙ i.files;
      read_faults = c.open_feed.ensures.read_faults ∙ i.read_faults;
      later = omega (arith, i.later, c.open_feed.ensures.later);
    }
