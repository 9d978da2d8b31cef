use Rattle.std.proofs.Common.{◌≡◌, List, Option, map, option_map, length, ap, sym, ◌∙◌}
use Rattle.std.proofs.lemmas.List.{length-map}
use Rattle.section_codec.specs.declared.table.Key.{Key}
use Rattle.section_codec.specs.declared.table.SubTable.{SubTable}
use Rattle.version_book.specs.Airings.{carried}
use Rattle.version_book.specs.Book.{GivenVersions, given_in, kept_after}
use Rattle.version_book.specs.Slots.{kept_by, kept_at, version_given, given_after}
use Rattle.version_book.specs.declared.last_version.LastVersion.{LastVersion}
use Rattle.version_book.proofs.SlotFacts.{kept_in-shown}
use Rattle.version_book.proofs.Airs.{versions-airing, given_after-airing, kept_after-airing}
use Rattle.version_book.proofs.book.VersionBook.assign.Goals as goal

pub returns-clause-each : goal.returns-clause-each
returns-clause-each c =
    let slots = c.self.inside.slots in
    ap length (c.of.ensures ∙ c.in_ok-versions.ensures.versions) ∙ length-map _ (version_given slots) ∙ ap length c.as_slice-tables.ensures

pub returns-clause-versions : goal.returns-clause-versions
returns-clause-versions c = λ past moment form stands.
    let slots = c.self.inside.slots in
    let before : (k : Key) → kept_at slots k ≡ kept_after (carried k past) =
    λ k. sym (kept_in-shown k slots.entries c.self.invariant) ∙ ap (λ (b : GivenVersions). given_in k b) c.self.view_is ∙ stands k in
    c.of.ensures ∙ c.in_ok-versions.ensures.versions ∙ ap (map (version_given slots)) c.as_slice-tables.ensures
    ∙ versions-airing past (kept_at slots) before c.args.tables.now.list moment form c.requires

pub returns-clause-stands : goal.returns-clause-stands
returns-clause-stands c = λ past moment form stands k.
    let slots = c.self.inside.slots in
    let before : (q : Key) → kept_at slots q ≡ kept_after (carried q past) =
    λ q. sym (kept_in-shown q slots.entries c.self.invariant) ∙ ap (λ (b : GivenVersions). given_in q b) c.self.view_is ∙ stands q in
    let ts = c.args.tables.now.list in
    let planned = c.planned.new.slots in
    let then : (q : Key) → kept_at planned q ≡ kept_after (carried q past) =
    λ q. ap (λ (o : Option LastVersion). option_map kept_by o) (c.in_ok-versions.ensures.held q) ∙ before q in
    kept_in-shown k c.settle.new.slots.entries c.settle.ensures.ordered
    ∙ c.settle.ensures.kept k
    ∙ ap (λ (xs : List SubTable). given_after (kept_at planned) xs k) c.as_slice-tables.ensures
    ∙ given_after-airing past (kept_at planned) then ts k
    ∙ sym (kept_after-airing past ts moment form k)
