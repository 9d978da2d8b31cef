-- What was sent of a journal has few keys.
use Rattle.std.proofs.Common.{◌≡◌, ℕ, List, [], ◌∷◌, ◌++◌, Bool, true, false, ◌||◌, map, refl, sym, ◌∙◌, subst, arith}
use Rattle.std.specs.Prelude.{Option, slice_range}
use Rattle.std.specs.List.{AllByRecursion}
use Rattle.std.specs.Set.{is_member}
use Rattle.std.proofs.lemmas.List.Folds.{list_any-append}
use Rattle.si_lists.proofs.Distinct.{distinct_count-within}
use Rattle.section_codec.specs.declared.table.Key.{Key}
use Rattle.section_codec.specs.declared.table.SubTable.{SubTable}
use Rattle.section_codec.specs.KeyOrder.{is_key}
use Rattle.mux_model.specs.declared.mux.Mux.{Mux}
use Rattle.mux_model.specs.Sound.{IsSound}
use Rattle.version_book.specs.Airings.{AiredTables}
use Rattle.sub_collect.specs.KeyCounts.{section_keys}
use Rattle.sub_collect.proofs.KeyCounts.{key_laws}
use Rattle.guide_receiver.specs.Dones.{counted_heard}
use Rattle.air_model.specs.Air.{airings_of}
use Rattle.air_laws.specs.Counting.{CanBeHeard}
use Rattle.air_laws.specs.Sending.{carried_keys}
use Rattle.cycle_player.specs.Sent.{SentOf, packets_sent}
use Rattle.air_laws.proofs.Carried.{heard_keys_carried}
use Rattle.cycle_player.proofs.Sent.{each_sent, sent_repeats}
use Rattle.journal_model.specs.declared.step.Entry.{Entry}
use Rattle.journal_air.specs.Air.{airings}
use Rattle.journal_air.proofs.KeyFacts.{airings_few}
use Rattle.journal_air.specs.HeardKeys.{HaveFewKeys}

-- the keys of the first of some airings are among those of all
carried_first : (first others : List AiredTables) (k : Key) → is_member is_key (carried_keys first) k ≡ true → is_member is_key (carried_keys (first ++ others)) k ≡ true
carried_first [] others k there = cc
carried_first (a ∷ first) others k there =
    list_any-append (is_key k) own (carried_keys (first ++ others)) ∙ go (is_member is_key own k) (sym (list_any-append (is_key k) own (carried_keys first)) ∙ there) (carried_first first others k)
  where
    own : List Key
    own = map (λ (t : SubTable). t.key) a.tables

    go : (b : Bool) → (b || is_member is_key (carried_keys first) k) ≡ true
        → (is_member is_key (carried_keys first) k ≡ true → is_member is_key (carried_keys (first ++ others)) k ≡ true) → (b || is_member is_key (carried_keys (first ++ others)) k) ≡ true
    go true e rest = refl
    go false e rest = rest e

pub sent_keys : (mux : Mux) (journal : List Entry) → IsSound mux → AllByRecursion CanBeHeard (airings mux journal)
    → (before now : Option (List ℕ)) (sent : SentOf mux.rate (airings mux journal) before now) → HaveFewKeys (packets_sent sent)
sent_keys mux journal sound can before now sent join end le =
    let all : List AiredTables = airings mux journal in
    let first : List AiredTables = airings_of sent.cycles in
    let heard = counted_heard (slice_range (packets_sent sent) join end) in
    let among = heard_keys_carried first sent.cycles (sent_repeats mux.rate all before now sent) (each_sent mux.rate all before now sent CanBeHeard can) sent.size join end le in
    let within = distinct_count-within key_laws (section_keys heard) (carried_keys all)
    (λ k there. subst (λ (all : List AiredTables). is_member is_key (carried_keys all) k ≡ true) (sym sent.airings_are) (carried_first first sent.others k (among k there))) in
    let few = airings_few mux journal sound in
    omega (arith, within, few)
