use Rattle.std.proofs.Common.{◌≡◌, ◌∙◌, ◌+◌, ◌-◌, ◌≤◌, ap, arith, rules, length, [], ◌∷◌, length-append}
use Rattle.desk_hall.specs.Turn.{View}
use Rattle.headend_jobs.proofs.Cutting.{cut_more, cut_all}
use Rattle.headend_jobs.proofs.crew.cut_all.Goals as goal

pub loop-lines-preserved : goal.loop-lines-preserved
loop-lines-preserved g c =
    let i = c.loop-lines.invariant in
    let count : length c.loop-lines.feeds.items ≡ length c.pop.new.self.items + 1 = ap length c.in-Some.ensures.items ∙ length-append c.pop.new.self.items (c.in-Some.lines ∷ []) in
    let span : c.split-own.new.self.own.span ≡ c.loop-lines.pass.own.span - 1 = ap (λ (v : View). v.own.span) c.split-own.ensures.kept in
    let few : length c.loop-lines.feeds.items ≤ 16 = i.few in
    record {
      turns = ap (λ (v : View). v.turns) c.split-own.ensures.kept ∙ i.turns;
      span = omega (arith, span, i.span, count);
      few = omega (arith, few, count);
      cut = cut_more c.args.turns.now.turns c.args.pass.now c.loop-lines.pass c.split-own.new.self c.args.feeds.items c.loop-lines.feeds.items c.pop.new.self.items c.loop-lines.jobs.items c.insert.new.self.items c.in-Some.lines c.split-own.result _
          c.in-Some.ensures.items c.split-own.ensures.kept c.split-own.ensures.new (ap (λ n. n + 1) (c.len.ensures ∙ c.pop.new.self.ok.0)) c.in_ok-insert.ensures.items i.cut;
    }

pub returns : goal.returns
returns g c = cut_all c.args.turns.now.turns c.args.pass.now c.loop-lines.pass c.args.feeds.items c.loop-lines.feeds.items c.loop-lines.jobs.items (search rules) c.loop-lines.invariant.cut
