-- The keys of the tables of a publication.
use Rattle.std.proofs.Common.{◌≡◌, ℕ, ◌<◌, ◌≤◌, ◌==◌, ◌&&◌, ◌||◌, ◌⊎◌, inl, inr, List, [], ◌∷◌, Bool, true, false, map, refl, sym, ap, ◌∙◌, arith, eqb-true}
use Rattle.std.specs.Prelude.{nat_lt}
use Rattle.std.specs.List.{AllByRecursion, Contains}
use Rattle.std.specs.List.Sorted.{IsStrictlySortedBy}
use Rattle.std.specs.Ordering.{nat_cmp, ordering_then}
use Rattle.std.specs.Cmp.{nat_cmp_is}
use Rattle.std.specs.declared.cmp.Ordering.{Ordering}
use Rattle.std.specs.declared.cmp.Ordering.TheVariants.{Less, Equal}
use Rattle.std.proofs.lemmas.Bool.{and_parts}
use Rattle.std.proofs.lemmas.Bool.Decides.{nat_tests}
use Rattle.std.proofs.lemmas.List.Elements.{All-contains_itself, recursion_from_All}
use Rattle.si_lists.proofs.Lists.{all_map, all_of_map, all_to_map, each_unit}
use Rattle.guide_model.specs.declared.guide.Guide.{Guide}
use Rattle.mux_model.specs.declared.mux.Other.{Other}
use Rattle.mux_model.specs.declared.mux.Mux.{Mux}
use Rattle.mux_model.specs.Order.{DoCome}
use Rattle.mux_model.specs.Sound.{IsSound, IsSoundService, comes_before}
use Rattle.section_codec.specs.declared.table.Key.{Key}
use Rattle.section_codec.specs.declared.table.SubTable.{SubTable}
use Rattle.section_codec.specs.KeyOrder.{key_cmp}
use Rattle.guide_receiver.specs.Latest.{is_pat_key, is_nit_key, is_sdt_key, is_other_sdt_key}
use Rattle.publication.specs.Network.{nit_key}
use Rattle.publication.specs.Programs.{pat_key}
use Rattle.publication.specs.Parts.{own_guide, remote_guide}
use Rattle.publication.specs.Tables.{sdt_key, other_sdt_key, tables_of}
use Rattle.publication.proofs.FitFacts.{each_pmt, each_sub_table}

-- the keys of the SDTs of the other streams
abbrev pub other_keys : Mux → List Key
other_keys mux = map other_sdt_key mux.others

-- ---- the tables that come once

-- the key of the PAT, of the NIT, of the SDT, of a PMT, of the SDT of another stream, or of event information
abbrev IsKnown : Mux → SubTable → Type 0
IsKnown mux t =
    (t.key ≡ pat_key mux)
    ⊎ ((t.key ≡ nit_key mux) ⊎ ((t.key ≡ sdt_key mux) ⊎ ((t.key.table ≡ 2) ⊎ (((t.key.table ≡ 0x46) × Contains (other_keys mux) t.key) ⊎ (0x4E ≤ t.key.table)))))

-- the SDTs of the other streams are among them
abbrev IsAmong : Mux → Other → Type 0
IsAmong mux o = Contains (other_keys mux) (other_sdt_key o)

all_among : (mux : Mux) → AllByRecursion (IsAmong mux) mux.others
all_among mux =
    all_of_map (Contains (other_keys mux)) other_sdt_key mux.others
    (recursion_from_All (Contains (other_keys mux)) (other_keys mux) (All-contains_itself (other_keys mux)))

all_known : (mux : Mux) (guide : Guide) → IsSound mux → AllByRecursion (IsKnown mux) (tables_of mux guide)
all_known mux guide sound =
    each_sub_table (IsKnown mux) (λ s. Unit {0}) (λ o s. Unit {0}) (IsAmong mux) mux guide (each_unit (own_guide mux guide)) (all_among mux)
    (inl refl)
    (each_pmt (IsKnown mux) IsSoundService (λ s is. inr (inr (inr (inl refl)))) mux.services sound.services)
    (inr (inl refl))
    (inr (inr (inl refl)))
    (λ s q. inr (inr (inr (inr (inr (omega arith))))))
    (λ s table q above below. inr (inr (inr (inr (inr (omega (arith, above)))))))
    (record {
      sdt = λ o among. inr (inr (inr (inr (inl (refl, among)))));
      parts = λ o among. each_unit (remote_guide guide o);
      present = λ o s among q. inr (inr (inr (inr (inr (omega arith)))));
      schedule = λ o s table among q above below. inr (inr (inr (inr (inr (omega (arith, above))))));
    })

pat_only : (mux : Mux) (t : SubTable) → IsKnown mux t → is_pat_key t.key ≡ true → t.key ≡ pat_key mux
pat_only mux t (inl e) test = e
pat_only mux t (inr (inl e)) test = (let n : t.key.table ≡ 0x40 = ap (λ (k : Key). k.table) e in absurd (let z : Prim.⊥ = grind (arith, nat_tests) in z))
pat_only mux t (inr (inr (inl e))) test = (let n : t.key.table ≡ 0x42 = ap (λ (k : Key). k.table) e in absurd (let z : Prim.⊥ = grind (arith, nat_tests) in z))
pat_only mux t (inr (inr (inr (inl n)))) test = absurd (let z : Prim.⊥ = grind (arith, nat_tests) in z)
pat_only mux t (inr (inr (inr (inr (inl (n, among)))))) test = absurd (let z : Prim.⊥ = grind (arith, nat_tests) in z)
pat_only mux t (inr (inr (inr (inr (inr n))))) test = absurd (let z : Prim.⊥ = grind (arith, nat_tests) in z)

nit_only : (mux : Mux) (t : SubTable) → IsKnown mux t → is_nit_key t.key ≡ true → t.key ≡ nit_key mux
nit_only mux t (inl e) test = (let n : t.key.table ≡ 0 = ap (λ (k : Key). k.table) e in absurd (let z : Prim.⊥ = grind (arith, nat_tests) in z))
nit_only mux t (inr (inl e)) test = e
nit_only mux t (inr (inr (inl e))) test = (let n : t.key.table ≡ 0x42 = ap (λ (k : Key). k.table) e in absurd (let z : Prim.⊥ = grind (arith, nat_tests) in z))
nit_only mux t (inr (inr (inr (inl n)))) test = absurd (let z : Prim.⊥ = grind (arith, nat_tests) in z)
nit_only mux t (inr (inr (inr (inr (inl (n, among)))))) test = absurd (let z : Prim.⊥ = grind (arith, nat_tests) in z)
nit_only mux t (inr (inr (inr (inr (inr n))))) test = absurd (let z : Prim.⊥ = grind (arith, nat_tests) in z)

sdt_only : (mux : Mux) (t : SubTable) → IsKnown mux t → is_sdt_key mux.stream t.key ≡ true → t.key ≡ sdt_key mux
sdt_only mux t (inl e) test = (let n : t.key.table ≡ 0 = ap (λ (k : Key). k.table) e in absurd (let z : Prim.⊥ = grind (arith, nat_tests) in z))
sdt_only mux t (inr (inl e)) test = (let n : t.key.table ≡ 0x40 = ap (λ (k : Key). k.table) e in absurd (let z : Prim.⊥ = grind (arith, nat_tests) in z))
sdt_only mux t (inr (inr (inl e))) test = e
sdt_only mux t (inr (inr (inr (inl n)))) test = absurd (let z : Prim.⊥ = grind (arith, nat_tests) in z)
sdt_only mux t (inr (inr (inr (inr (inl (n, among)))))) test = absurd (let z : Prim.⊥ = grind (arith, nat_tests) in z)
sdt_only mux t (inr (inr (inr (inr (inr n))))) test = absurd (let z : Prim.⊥ = grind (arith, nat_tests) in z)

other_among : (mux : Mux) (t : SubTable) → IsKnown mux t → is_other_sdt_key t.key ≡ true → Contains (other_keys mux) t.key
other_among mux t (inl e) test = (let n : t.key.table ≡ 0 = ap (λ (k : Key). k.table) e in absurd (let z : Prim.⊥ = grind (arith, nat_tests) in z))
other_among mux t (inr (inl e)) test = (let n : t.key.table ≡ 0x40 = ap (λ (k : Key). k.table) e in absurd (let z : Prim.⊥ = grind (arith, nat_tests) in z))
other_among mux t (inr (inr (inl e))) test = (let n : t.key.table ≡ 0x42 = ap (λ (k : Key). k.table) e in absurd (let z : Prim.⊥ = grind (arith, nat_tests) in z))
other_among mux t (inr (inr (inr (inl n)))) test = absurd (let z : Prim.⊥ = grind (arith, nat_tests) in z)
other_among mux t (inr (inr (inr (inr (inl (n, among)))))) test = among
other_among mux t (inr (inr (inr (inr (inr n))))) test = absurd (let z : Prim.⊥ = grind (arith, nat_tests) in z)

pub only_pat : (mux : Mux) (guide : Guide) → IsSound mux → AllByRecursion (λ (t : SubTable). is_pat_key t.key ≡ true → t.key ≡ pat_key mux) (tables_of mux guide)
only_pat mux guide sound =
    all_map (IsKnown mux) (λ (t : SubTable). is_pat_key t.key ≡ true → t.key ≡ pat_key mux) (pat_only mux) (tables_of mux guide) (all_known mux guide sound)

pub only_nit : (mux : Mux) (guide : Guide) → IsSound mux → AllByRecursion (λ (t : SubTable). is_nit_key t.key ≡ true → t.key ≡ nit_key mux) (tables_of mux guide)
only_nit mux guide sound =
    all_map (IsKnown mux) (λ (t : SubTable). is_nit_key t.key ≡ true → t.key ≡ nit_key mux) (nit_only mux) (tables_of mux guide) (all_known mux guide sound)

pub only_sdt : (mux : Mux) (guide : Guide) → IsSound mux → AllByRecursion (λ (t : SubTable). is_sdt_key mux.stream t.key ≡ true → t.key ≡ sdt_key mux) (tables_of mux guide)
only_sdt mux guide sound =
    all_map (IsKnown mux) (λ (t : SubTable). is_sdt_key mux.stream t.key ≡ true → t.key ≡ sdt_key mux) (sdt_only mux) (tables_of mux guide) (all_known mux guide sound)

pub only_others : (mux : Mux) (guide : Guide) → IsSound mux → AllByRecursion (λ (t : SubTable). is_other_sdt_key t.key ≡ true → Contains (other_keys mux) t.key) (tables_of mux guide)
only_others mux guide sound =
    all_map (IsKnown mux) (λ (t : SubTable). is_other_sdt_key t.key ≡ true → Contains (other_keys mux) t.key) (other_among mux) (tables_of mux guide) (all_known mux guide sound)

-- ---- their order

-- a stream that comes before another one has the lower key
less_key : (o p : Other) → comes_before o p ≡ true → key_cmp (other_sdt_key o) (other_sdt_key p) ≡ Less
less_key o p before = go (nat_lt o.stream p.stream) refl before
  where
    lower : (a b : ℕ) → nat_lt a b ≡ true → nat_cmp a b ≡ Less
    lower a b e = sym (nat_cmp_is a b Less (let lt : a < b = grind (arith, nat_tests) in lt))

    same : (a b : ℕ) → (a == b) ≡ true → nat_cmp a b ≡ Equal
    same a b e = sym (nat_cmp_is a b Equal (eqb-true a b e))

    go : (b : Bool) → nat_lt o.stream p.stream ≡ b → (b || (o.stream == p.stream && nat_lt o.original p.original)) ≡ true
        → ordering_then (nat_cmp o.stream p.stream) (nat_cmp o.original p.original) ≡ Less
    go true e some = ap (λ (r : Ordering). ordering_then r (nat_cmp o.original p.original)) (lower o.stream p.stream e)
    go false e some =
        let both = and_parts (o.stream == p.stream) (nat_lt o.original p.original) some in
        ap (λ (r : Ordering). ordering_then r (nat_cmp o.original p.original)) (same o.stream p.stream both.0) ∙ lower o.original p.original both.1

keys_ascend : (os : List Other) → DoCome comes_before os → IsStrictlySortedBy key_cmp (map other_sdt_key os)
unfolding IsStrictlySortedBy
keys_ascend [] up = tt
keys_ascend (o ∷ os) up = (
  all_to_map (λ (k : Key). key_cmp (other_sdt_key o) k ≡ Less) other_sdt_key os
      (all_map (λ (p : Other). comes_before o p ≡ true) (λ (p : Other). key_cmp (other_sdt_key o) (other_sdt_key p) ≡ Less) (λ p before. less_key o p before) os up.0),
  keys_ascend os up.1,
)

pub others_ascend : (mux : Mux) → IsSound mux → IsStrictlySortedBy key_cmp (other_keys mux)
others_ascend mux sound = keys_ascend mux.others sound.others.ascend
