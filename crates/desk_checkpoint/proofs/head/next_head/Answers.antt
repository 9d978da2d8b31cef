use Rattle.std.proofs.Common.{refl, ℕ}
use Rattle.input_lines.specs.Ahead.{Ahead, Came, Found, and_then}
use Rattle.input_lines.proofs.LineReads.{read_then, read_unread, read_value}
use Rattle.cycle_player.specs.declared.clock.Clock.{Clock}
use Rattle.desk_checkpoint.specs.declared.head.Head.{Head}
use Rattle.desk_checkpoint.specs.Reads.{clock_ahead, count_line}
use Rattle.desk_checkpoint.proofs.head.next_head.Goals as goal

abbrev with_clock : ℕ → Clock → Ahead → Found Head
with_clock count clock more = Came (record { count = count; clock = clock }) more

pub returns-in-Err-clause-reads : goal.returns-in-Err-clause-reads
returns-in-Err-clause-reads g c =
    read_unread g.S.Source.left g.S.Source.faults g.S.Source.same g.met.S.Source.same_at_once g.met.S.Source.same_later count_line
    (λ (count : ℕ) behind. and_then (clock_ahead c.args.rate behind) (with_clock count)) c.args.lines.now c.next_count.new.lines c.in-Err.stop c.in-Err.ensures.reads

pub returns-in-Ok-clock_at-clause-reads : goal.returns-in-Ok-clock_at-clause-reads
returns-in-Ok-clock_at-clause-reads g c =
    let count = c.in-Ok.count in
    let clock = c.in-Ok-clock_at.clock in
    let mid = c.next_count.new.lines in
    let end = c.clock_at.new.lines in
    read_then g.S.Source.left g.S.Source.faults g.S.Source.same g.met.S.Source.same_at_once g.met.S.Source.same_later count_line
    (λ (n : ℕ) behind. and_then (clock_ahead c.args.rate behind) (with_clock n)) c.args.lines.now mid end count _ c.in-Ok.ensures.reads
    (read_then g.S.Source.left g.S.Source.faults g.S.Source.same g.met.S.Source.same_at_once g.met.S.Source.same_later (clock_ahead c.args.rate) (with_clock count) mid end end clock _ c.in-Ok-clock_at.ensures
    (read_value g.S.Source.left g.S.Source.faults g.S.Source.same g.met.S.Source.same_at_once g.met.S.Source.same_later (with_clock count clock) (record { count = count; clock = clock }) end (λ a. refl)))

pub returns-in-Err-clock_at-clause-reads : goal.returns-in-Err-clock_at-clause-reads
returns-in-Err-clock_at-clause-reads g c =
    let count = c.in-Ok.count in
    let mid = c.next_count.new.lines in
    let end = c.clock_at.new.lines in
    read_then g.S.Source.left g.S.Source.faults g.S.Source.same g.met.S.Source.same_at_once g.met.S.Source.same_later count_line
    (λ (n : ℕ) behind. and_then (clock_ahead c.args.rate behind) (with_clock n)) c.args.lines.now mid end count _ c.in-Ok.ensures.reads
    (read_unread g.S.Source.left g.S.Source.faults g.S.Source.same g.met.S.Source.same_at_once g.met.S.Source.same_later (clock_ahead c.args.rate) (with_clock count) mid end c.in-Err-clock_at.stop c.in-Err-clock_at.ensures)
