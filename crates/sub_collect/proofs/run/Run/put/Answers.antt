use Rattle.std.proofs.Common.{◌≡◌, ℕ, true, false, nat_lt, List, option_map, set, ap, sym, refl, ◌∙◌, arith}
use Rattle.std.proofs.lemmas.Bool.{ltb-false}
use Rattle.section_codec.specs.Tables.{is_eit}
use Rattle.sub_collect.specs.Runs.{counted, segment_last_of}
use Rattle.sub_collect.specs.Completions.{done_at}
use Rattle.sub_collect.specs.Collectors.{body_in, last_in}
use Rattle.sub_collect.specs.Slots.{kept_run, held_with, told_with, needed_by, whole_by}
use Rattle.sub_collect.proofs.Putting.{inserted, put-stands, put-whole, put-gap, last_in-put}
use Rattle.sub_collect.proofs.run.Run.put.Goals as goal
use Rattle.sub_collect.proofs.run.Run.put.Goals.{then-from-front+in_ok-done, else-from-front, then-is_eit, else-is_eit}

pub returns-clause-done : goal.returns-clause-done
returns-clause-done c = λ run stands.
    let s = counted c.args.key c.args.header.now c.args.body in
    let old = kept_run c.args.self.now in
    let held = λ (m : ℕ). body_in m old.held in
    let told : c.last_told_by-told.result ≡ segment_last_of s = c.last_told_by-told.ensures ∙ ap (λ (body : List ℕ). segment_last_of (counted c.args.key c.args.header.now body)) c.as_slice.ensures in
    elim c.if-from-front.branch [
      | then-from-front+in_ok-done w ↦ (
          w.done-is ∙ w.in_ok-done.ensures
          ∙ ap (λ (body : List ℕ). option_map (done_at s) (whole_by (held_with held s.number body) (needed_by (is_eit s.key.table) (told_with (last_in old.lasts) s.number c.last_told_by-told.result) s.last))) w.as_slice-then-from-front.ensures
          ∙ ap (λ t. option_map (done_at s) (whole_by (held_with held s.number s.body) (needed_by (is_eit s.key.table) (told_with (last_in old.lasts) s.number t) s.last))) told
          ∙ ap (option_map (done_at s)) (sym (put-whole run s old stands)))
      | else-from-front w ↦ elim c.if-is_eit.branch [
        | then-is_eit u ↦ absurd (let e : true ≡ false = sym u.if-is_eit.true ∙ sym u.value-is ∙ w.if-from-front.false in let z : Prim.⊥ = cc in z)
        | else-is_eit u ↦ (
            w.done-is
            ∙ ap (option_map (done_at s)) (sym (put-gap run s old c.front_with-front.result stands (omega arith) (sym u.if-is_eit.ensures) (c.front_with-front.ensures stands.front c.args.body)
            (let e : nat_lt u.from.result c.front_with-front.result ≡ false = sym u.value-is ∙ w.if-from-front.false in omega (arith, ltb-false u.from.result c.front_with-front.result e, u.from.ensures)))))
      ]
    ]

pub returns-clause-stands : goal.returns-clause-stands
returns-clause-stands c = λ run stands.
    let s = counted c.args.key c.args.header.now c.args.body in
    let old = kept_run c.args.self.now in
    let new = kept_run (record {
      version = c.args.self.now.version;
      last = c.args.header.now.last;
      held = c.insert.new.self;
      front = c.front_with-front.result;
      lasts = set c.args.self.now.lasts c.from-2.result c.last_told_by-told.result;
    }) in
    let told : c.last_told_by-told.result ≡ segment_last_of s = c.last_told_by-told.ensures ∙ ap (λ (body : List ℕ). segment_last_of (counted c.args.key c.args.header.now body)) c.as_slice.ensures in
    put-stands run s old new stands c.requires refl refl
    (inserted old.held new.held s.number c.args.body c.in_ok-insert.ensures.updates.0)
    (c.front_with-front.ensures stands.front c.args.body)
    (last_in-put old.lasts s.number c.from-2.result c.last_told_by-told.result (segment_last_of s) (omega (arith, c.from-2.ensures)) c.from-2.ensures told)
