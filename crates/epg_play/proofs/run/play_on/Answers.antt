use Rattle.std.proofs.Common.{ℕ, refl, ap, ◌∙◌, subst}
use Rattle.std.specs.Prelude.{not}
use Rattle.epg_play.specs.declared.desk.ScriptDesk.{ScriptDesk}
use Rattle.epg_play.specs.Items.{Stops}
use Rattle.epg_play.proofs.RestFacts.{begun_at}
use Rattle.epg_play.proofs.run.play_on.Goals as goal

pub returns-clause-played : goal.returns-clause-played
returns-clause-played g c =
    let start = c.args.start in
    let is = c.open-desk.ensures.value in
    let lean = c.without_journal in
    let at = begun_at start.desk lean.result start.shift (not c.args.fold) c.open-desk.result is c.open-desk.ensures.made lean.ensures.mux lean.ensures.stands in
    let rest = c.play_rest-played in
    let played = rest.ensures.plays start.desk at in
    let stays = rest.ensures.stays in
    let shift = stays.shift ∙ ap (λ (d : ScriptDesk). d.shift) is in
    record {
      on = record {
        course = rest.new.course;
        is = refl;
        shift = shift;
        keeps = stays.keeps ∙ ap (λ (d : ScriptDesk). d.keeps) is;
        stop = rest.result;
        met = c.met_of.ensures;
        left = played.0;
      };
      stops = subst (λ (n : ℕ). Stops n g.S.Source.left c.args.lines.now rest.new.lines start.desk played.0.now rest.result) shift played.1;
    }
