use Rattle.std.proofs.Common.{◌≤◌, List, length, ap, sym, subst, arith, ◌∙◌}
use mathlib.Core.List.{IsPrefix}
use Rattle.guide_board.specs.declared.post.Post.{Post}
use Rattle.guide_board.proofs.Posts.{fewer_begin}
use Rattle.guide_board.proofs.Sheets.{sheet_room}
use Rattle.guide_board.proofs.kept.Kept.take_in.Goals as goal

pub returns-then-self-deref-clause-own : goal.returns-then-self-deref-clause-own
returns-then-self-deref-clause-own c =
    let both = c.learn.new.self.log in
    let this : IsPrefix c.self.inside.history.log both = subst (λ (l : List Post). IsPrefix l both) (ap (λ s. s.log) c.again-both.ensures) c.learn.ensures.2 in
    let less : length c.self.inside.history.log ≤ length c.note.inside.history.log = omega (arith, c.self.invariant.size, c.note.invariant.size, c.if-self-deref.true, ap (λ s. s.later) c.deref.ensures) in
    rw (c.again.ensures, ← c.self.view_is) (fewer_begin c.self.inside.history.log c.note.inside.history.log both this c.learn.ensures.3 less)

pub returns-clause-told : goal.returns-clause-told
returns-clause-told c =
    let both = c.learn.new.self.log in
    let this : IsPrefix c.self.inside.history.log both = subst (λ (l : List Post). IsPrefix l both) (ap (λ s. s.log) c.again-both.ensures) c.learn.ensures.2 in
    let less : length c.note.inside.history.log ≤ length c.self.inside.history.log = omega (arith, c.self.invariant.size, c.note.invariant.size, c.if-self-deref.false, ap (λ s. s.later) c.deref.ensures) in
    rw (← c.self.view_is, ← c.note.view_is) (fewer_begin c.note.inside.history.log c.self.inside.history.log both c.learn.ensures.3 this less)

pub copy_from_slice-requires : goal.copy_from_slice-requires
copy_from_slice-requires c =
    let both = c.learn.new.self.log in
    let this : IsPrefix c.self.inside.history.log both = subst (λ (l : List Post). IsPrefix l both) (ap (λ s. s.log) c.again-both.ensures) c.learn.ensures.2 in
    let own = sheet_room _ _ _ _ c.self.invariant both this in
    let told = sheet_room _ _ _ _ c.note.invariant both c.learn.ensures.3 in
    ap length c.as_mut_slice.ensures.value ∙ (own ∙ (sym told ∙ sym (ap length c.as_slice.ensures.value ∙ ap (λ s. length s.lines.items) c.deref-then-self-deref-3.ensures)))
