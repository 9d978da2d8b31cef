use Rattle.std.proofs.Common.{◌≡◌, ◌∙◌, ◌+◌, ap, arith, length, refl, sym}
use Rattle.std.specs.Prelude.{None, Ok}
use Rattle.turn_lock.specs.Knowledge.{Lock}
use Rattle.desk_hall.specs.Turn.{View}
use Rattle.headend_jobs.specs.declared.jobs.ControlJob.{ControlJob}
use Rattle.headend_jobs.specs.declared.jobs.PlayerJob.{PlayerJob}
use Rattle.headend_jobs.proofs.Cutting.{cut_done, cut_new, feeds_len, kept_new}
use Rattle.headend_jobs.proofs.crew.Crew.open.Goals as goal

pub split-own-requires-clause-turns : goal.split-own-requires-clause-turns
split-own-requires-clause-turns g c =
    let t = c.in_ok-hall.hall.turns in
    let lens : c.len-2.result ≡ length c.args.inputs.feeds.items = c.len-2.ensures ∙ c.args.inputs.feeds.ok.0 in
    let cut = cut_done c.turns.result.now.turns t c.args.mux c.args.inputs.feeds.items c.len-2.result c.in_ok-hall.pass c.cut_all.new.pass c.in_ok-feeds.feeds.items (ap (λ (l : Lock). l.turns) c.turns.ensures) lens c.in_ok-hall.ensures.1 c.in_ok-feeds.ensures in
    ap (λ (v : View). v.turns) cut.0 ∙ ap (λ (l : Lock). l.turns) (sym c.turns-2.ensures)

pub split-own-requires-clause-span : goal.split-own-requires-clause-span
split-own-requires-clause-span g c =
    let t = c.in_ok-hall.hall.turns in
    let lens : c.len-2.result ≡ length c.args.inputs.feeds.items = c.len-2.ensures ∙ c.args.inputs.feeds.ok.0 in
    let cut = cut_done c.turns.result.now.turns t c.args.mux c.args.inputs.feeds.items c.len-2.result c.in_ok-hall.pass c.cut_all.new.pass c.in_ok-feeds.feeds.items (ap (λ (l : Lock). l.turns) c.turns.ensures) lens c.in_ok-hall.ensures.1 c.in_ok-feeds.ensures in
    let span = ap (λ (v : View). v.own.span) cut.0 in
    (omega arith, omega (arith, span))

pub returns : goal.returns
returns g c =
    let t = c.in_ok-hall.hall.turns in
    let lens : c.len-2.result ≡ length c.args.inputs.feeds.items = c.len-2.ensures ∙ c.args.inputs.feeds.ok.0 in
    let cut = cut_done c.turns.result.now.turns t c.args.mux c.args.inputs.feeds.items c.len-2.result c.in_ok-hall.pass c.cut_all.new.pass c.in_ok-feeds.feeds.items (ap (λ (l : Lock). l.turns) c.turns.ensures) lens c.in_ok-hall.ensures.1 c.in_ok-feeds.ensures in
    record {
      callers = c.in_ok-hall.ensures.0 ∙ ap (λ n. n + 2) lens;
      player = ap (λ (v : View). let j : PlayerJob = record { pass = v; cycles = c.args.cycles; end = Ok tt } in j) (cut_new t c.args.mux c.cut_all.new.pass c.split-own.result cut.0 c.split-own.ensures.new);
      control = ap (λ (v : View). let j : ControlJob g.row.S.Denot = record { pass = v; lines = c.args.inputs.control; stop = None } in j) (kept_new t c.args.mux c.cut_all.new.pass c.split-own.new.self cut.0 c.split-own.ensures.kept);
      feeds = cut.1;
      views_are = refl;
      none = c.in_ok-back.ensures.items;
      room = omega (arith, c.in_ok-back.ensures.len, ap length cut.1, feeds_len t c.args.mux 1 c.args.inputs.feeds.items, c.in_ok-back.ensures.exact, c.len.ensures, c.args.inputs.feeds.ok.0);
    }
