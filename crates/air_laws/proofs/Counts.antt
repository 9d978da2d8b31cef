-- What bytes that are heard on a key's PID count for.
use Rattle.std.proofs.Common.{◌≡◌, ℕ, ◌<◌, List, [], ◌∷◌, ◌++◌, Bool, true, false, ◌&&◌, Option, Some, None, refl, sym, ap, ap₂, ◌∙◌, subst, arith, map}
use Rattle.std.specs.Prelude.{if◌then◌else◌, cond, filter_map, option_map, Result, Ok, Err}
use Rattle.std.specs.List.{AllByRecursion, cons_option}
use Rattle.std.proofs.lemmas.List.Elements.{filter-append, filter_map-append}
use Rattle.si_lists.proofs.Lists.{all_append, all_front, all_behind}
use Rattle.section_codec.proofs.NamingFacts.{counted_range}
use Rattle.section_codec.specs.declared.section.Section.{Section}
use Rattle.section_codec.specs.declared.section.Section.TheVariants.{Long, Short}
use Rattle.section_codec.specs.declared.section.BadSection.{BadSection}
use Rattle.section_codec.specs.declared.table.Key.{Key}
use Rattle.section_codec.specs.Keys.{key_in}
use Rattle.section_codec.specs.Section.{section_in}
use Rattle.section_codec.specs.KeyOrder.{is_key}
use Rattle.section_codec.proofs.KeyFacts.{IsKeyOf-key_in}
use Rattle.section_codec.proofs.KeyOrderFacts.{is_key-same}
use Rattle.ts_packets.specs.Packets.{all_of}
use Rattle.ts_demux.specs.declared.section.RawSection.{RawSection}
use Rattle.ts_demux.specs.Laws.{within}
use Rattle.ts_demux.specs.Sections.{sections_on, heard_all}
use Rattle.ts_demux.proofs.Adding.{order_kept}
use Rattle.ts_demux.proofs.Parts.{all-within}
use Rattle.sub_collect.specs.Runs.{Counted, counted}
use Rattle.sub_collect.specs.Completions.{is_of, of_key}
use Rattle.section_codec.specs.Tables.{is_counted}
use Rattle.guide_receiver.specs.Counting.{is_body_of_table, counted_by, counted_in, counted_among}
use Rattle.guide_receiver.specs.Dones.{counted_heard}
use Rattle.air_model.specs.Air.{Sent, sent_on}
use Rattle.air_laws.specs.Counting.{raw_of}
use Rattle.air_laws.proofs.Keys.{count_on, from_pid, raw-on}
use Rattle.air_laws.proofs.Blocks.{block}

-- the sections of a key among bytes that are heard on its PID
abbrev pub key_heard : Key → List (List ℕ) → List Counted
key_heard k heard = of_key k (filter_map (count_on k.pid) heard)

pub key_heard-append : (k : Key) (xs ys : List (List ℕ)) → key_heard k (xs ++ ys) ≡ key_heard k xs ++ key_heard k ys
key_heard-append k xs ys =
    ap (of_key k) (filter_map-append (count_on k.pid) xs ys)
    ∙ filter-append (is_of k) (filter_map (count_on k.pid) xs) (filter_map (count_on k.pid) ys)

-- all that count of packets
pub heard_of_key : (k : Key) (packets : List (List ℕ)) → of_key k (counted_heard packets) ≡ key_heard k (sections_on k.pid packets)
heard_of_key k packets = from_pid k (heard_all [] packets) ∙ ap (key_heard k) (order_kept packets k.pid)

-- all that count of what a cycle sends
pub sent_of_key : (k : Key) (ss : List Sent) → key_heard k (filter_map (sent_on k.pid) ss) ≡ block k ss
sent_of_key k ss = sym (from_pid k (map raw_of ss) ∙ ap (key_heard k) (raw-on k.pid ss))

-- ---- a part of it

apart : (k : Key) (P : Counted → Type 0) (bs : List (List ℕ)) → AllByRecursion P (key_heard k bs)
    → AllByRecursion (λ (b : List ℕ). AllByRecursion P (key_heard k (b ∷ []))) bs
apart k P [] all = tt
apart k P (b ∷ bs) all =
    let both = subst (AllByRecursion P) (key_heard-append k (b ∷ []) bs) all in (
      all_front P (key_heard k (b ∷ [])) (key_heard k bs) both,
      apart k P bs (all_behind P (key_heard k (b ∷ [])) (key_heard k bs) both),
    )

together : (k : Key) (P : Counted → Type 0) (bs : List (List ℕ))
    → AllByRecursion (λ (b : List ℕ). AllByRecursion P (key_heard k (b ∷ []))) bs → AllByRecursion P (key_heard k bs)
together k P [] all = tt
together k P (b ∷ bs) all =
    subst (AllByRecursion P) (sym (key_heard-append k (b ∷ []) bs))
    (all_append P (key_heard k (b ∷ [])) (key_heard k bs) all.0 (together k P bs all.1))

-- what holds of all sections of a key holds of those that begin and end in a part
pub part_of_key : (k : Key) (P : Counted → Type 0) (join end : ℕ) (groups : List (List (List ℕ))) → AllByRecursion P (key_heard k (all_of groups))
    → AllByRecursion P (key_heard k (within join end groups))
part_of_key k P join end groups all =
    together k P (within join end groups)
    (all-within (λ (b : List ℕ). AllByRecursion P (key_heard k (b ∷ []))) join end groups (apart k P (all_of groups) all))

-- ---- keys that do not count

-- PIDs that count are below that of the null packets
pub counted_below : (pid table : ℕ) → is_counted pid table ≡ true → pid < 8191
counted_below pid table e = omega (arith, (counted_range pid table e).0)

-- a section that counts is of a table that does
counts_table : (pid : ℕ) (r : Result Section BadSection) (c : Counted) → counted_by pid r ≡ Some c → is_counted c.key.pid c.key.table ≡ true
counts_table pid (Err bad) c e = cc
counts_table pid (Ok (Short table body)) c e = cc
counts_table pid (Ok (Long h body)) c e = go h.current (is_counted pid h.table) refl (is_body_of_table h body) (key_in pid h body) refl e
  where
    go : (a b : Bool) → is_counted pid h.table ≡ b → (d : Bool) (o : Option Key) → key_in pid h body ≡ o
        → (if a && b && d then option_map (λ (k : Key). counted k h body) o else None) ≡ Some c → is_counted c.key.pid c.key.table ≡ true
    go false b f d o g e = cc
    go true false f d o g e = cc
    go true true f false o g e = cc
    go true true f true None g e = cc
    go true true f true (Some q) g e =
        let same : counted q h body ≡ c = cc in
        let is = IsKeyOf-key_in pid h body q g in
        ap₂ is_counted (ap (λ (x : Counted). x.key.pid) (sym same) ∙ is.on_pid) (ap (λ (x : Counted). x.key.table) (sym same) ∙ is.of_table) ∙ f

pub none_counts : (k : Key) → is_counted k.pid k.table ≡ false → (rs : List RawSection) → of_key k (counted_among rs) ≡ []
none_counts k other [] = refl
none_counts k other (r ∷ rs) = go (counted_in r) refl (none_counts k other rs)
  where
    go : (o : Option Counted) → counted_in r ≡ o → of_key k (counted_among rs) ≡ [] → of_key k (cons_option o (counted_among rs)) ≡ []
    go None e rest = rest
    go (Some c) e rest = own (is_key c.key k) refl
      where
        own : (b : Bool) → is_key c.key k ≡ b → cond (is_key c.key k) (c ∷ of_key k (counted_among rs)) (of_key k (counted_among rs)) ≡ []
        own false f = ap (λ (b : Bool). cond b (c ∷ of_key k (counted_among rs)) (of_key k (counted_among rs))) f ∙ rest
        own true f =
            let both : true ≡ false =
            sym (counts_table r.pid (section_in r.bytes) c e) ∙ ap (λ (q : Key). is_counted q.pid q.table) (is_key-same c.key k f) ∙ other in
            absurd (let z : Prim.⊥ = cc in z)
