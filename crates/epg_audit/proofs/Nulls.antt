-- Null packets, one packet after the other.
use Rattle.std.proofs.Common.{◌≡◌, ℕ, Bool, true, false, not, List, [], ◌∷◌, ◌++◌, refl, sym}
use Rattle.std.specs.Prelude.{Option}
use Rattle.std.specs.Bool.{then_some}
use Rattle.std.proofs.lemmas.List.Elements.{filter-append}
use Rattle.air_audit.specs.Checking.{has_shape}
use Rattle.air_audit.specs.Passing.{is_null}
use Rattle.air_audit.proofs.Passing.{null_more, other_more}
use Rattle.epg_audit.specs.Recorded.{is_passed, passed_over}
use Rattle.air_audit.specs.TimedAirs.{seen}

-- ---- what is looked at

-- one packet more that is passed over
pub seen_same : (nulls : Bool) (packets : List (List ℕ)) (p : List ℕ) → is_passed nulls p ≡ true → seen nulls (packets ++ p ∷ []) ≡ seen nulls packets
seen_same false packets p is = cc is
seen_same true packets p is = sym (null_more packets p is)

-- one that is not
pub seen_more : (nulls : Bool) (packets : List (List ℕ)) (p : List ℕ) → is_passed nulls p ≡ false → seen nulls (packets ++ p ∷ []) ≡ seen nulls packets ++ p ∷ []
seen_more false packets p is = refl
seen_more true packets p is = sym (other_more packets p is)

-- packets of two parts
pub seen_parts : (nulls : Bool) (front behind : List (List ℕ)) → seen nulls (front ++ behind) ≡ seen nulls front ++ seen nulls behind
seen_parts false front behind = refl
seen_parts true front behind = filter-append (λ (bytes : List ℕ). not (is_null bytes)) front behind

-- a packet whose header is none that is written is no null packet
pub shapeless : (nulls : Bool) (p : List ℕ) → has_shape p ≡ false → is_passed nulls p ≡ false
shapeless false p e = refl
shapeless true p e = rw e refl

-- ---- how many are passed over

-- at first
pub none_yet : (nulls : Bool) (passed : Option ℕ) → passed ≡ then_some nulls 0 → passed ≡ passed_over nulls []
none_yet false passed is = is
none_yet true passed is = is

-- whether null packets may stand is told by how they are counted
pub same_nulls : (one two : Bool) → passed_over one [] ≡ passed_over two [] → one ≡ two
same_nulls false false e = refl
same_nulls true true e = refl
same_nulls false true e = cc e
same_nulls true false e = cc e
