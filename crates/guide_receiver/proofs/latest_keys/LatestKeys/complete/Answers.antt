use Rattle.std.proofs.Common.{◌≡◌, Bool, Option, Some, sym, ap, ◌∙◌, nat_cmp, is_eq}
use Rattle.section_codec.specs.declared.table.Key.{Key}
use Rattle.std.specs.Prelude.{◌==◌, ◌&&◌, if◌then◌else◌}
use Rattle.std.specs.Cmp.{unsigned_ties}
use Rattle.std.specs.BTreeSet.{insert_key}
use Rattle.section_codec.specs.KeyOrder.{key_cmp}
use Rattle.guide_receiver.specs.Latest.{LatestKept, kept_keys, sdt_in}
use Rattle.guide_receiver.proofs.Latest.{key-put, sdt_in-get}
use Rattle.guide_receiver.proofs.latest_keys.LatestKeys.complete.Goals as goal

pub returns-in-0 : goal.returns-in-0
returns-in-0 c = λ keys are.
    let k = c.args.key in
    let old = kept_keys c.args.self.now in
    let new : LatestKept = record { pat = Some k; nit = old.nit; sdts = old.sdts; others = old.others } in
    let at : k.table ≡ 0x00 = cc in
    key-put keys k old new are
    (ap (λ n. if n == 0x00 then Some k else old.pat) (sym at))
    (ap (λ n. if n == 0x40 then Some k else old.nit) (sym at))
    (λ ext. ap (λ n. if n == 0x42 && k.ext == ext then Some k else sdt_in ext old.sdts) (sym at))
    (ap (λ n. if n == 0x46 then insert_key key_cmp old.others k else old.others) (sym at))

pub returns-in-64 : goal.returns-in-64
returns-in-64 c = λ keys are.
    let k = c.args.key in
    let old = kept_keys c.args.self.now in
    let new : LatestKept = record { pat = old.pat; nit = Some k; sdts = old.sdts; others = old.others } in
    let at : k.table ≡ 0x40 = cc in
    key-put keys k old new are
    (ap (λ n. if n == 0x00 then Some k else old.pat) (sym at))
    (ap (λ n. if n == 0x40 then Some k else old.nit) (sym at))
    (λ ext. ap (λ n. if n == 0x42 && k.ext == ext then Some k else sdt_in ext old.sdts) (sym at))
    (ap (λ n. if n == 0x46 then insert_key key_cmp old.others k else old.others) (sym at))

pub returns-in_ok-insert-in-66 : goal.returns-in_ok-insert-in-66
returns-in_ok-insert-in-66 c = λ keys are.
    let k = c.args.key in
    let old = kept_keys c.args.self.now in
    let new : LatestKept = record { pat = old.pat; nit = old.nit; sdts = c.insert.new.self.entries; others = old.others } in
    let at : k.table ≡ 0x42 = cc in
    key-put keys k old new are
    (ap (λ n. if n == 0x00 then Some k else old.pat) (sym at))
    (ap (λ n. if n == 0x40 then Some k else old.nit) (sym at))
    (λ ext. sym (sdt_in-get ext new.sdts) ∙ c.in_ok-insert-in-66.ensures.updates.0 ext
    ∙ ap (λ (o : Option Key). if is_eq (nat_cmp k.ext ext) then Some k else o) (sdt_in-get ext old.sdts)
    ∙ ap (λ (b : Bool). if b then Some k else sdt_in ext old.sdts) (sym (unsigned_ties k.ext ext))
    ∙ ap (λ n. if n == 0x42 && k.ext == ext then Some k else sdt_in ext old.sdts) (sym at))
    (ap (λ n. if n == 0x46 then insert_key key_cmp old.others k else old.others) (sym at))

pub returns-in_ok-insert-in-70 : goal.returns-in_ok-insert-in-70
returns-in_ok-insert-in-70 c = λ keys are.
    let k = c.args.key in
    let old = kept_keys c.args.self.now in
    let new : LatestKept = record { pat = old.pat; nit = old.nit; sdts = old.sdts; others = c.insert-in-70.new.self.keys } in
    let at : k.table ≡ 0x46 = cc in
    key-put keys k old new are
    (ap (λ n. if n == 0x00 then Some k else old.pat) (sym at))
    (ap (λ n. if n == 0x40 then Some k else old.nit) (sym at))
    (λ ext. ap (λ n. if n == 0x42 && k.ext == ext then Some k else sdt_in ext old.sdts) (sym at))
    (c.in_ok-insert-in-70.ensures.keys ∙ ap (λ n. if n == 0x46 then insert_key key_cmp old.others k else old.others) (sym at))
