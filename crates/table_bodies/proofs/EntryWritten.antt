-- Written entries read back.
use Rattle.std.proofs.Common.{◌≡◌, ℕ, ◌+◌, ◌*◌, ◌/◌, ◌%◌, ◌<◌, Bool, true, ◌&&◌, List, [], ◌∷◌, ◌++◌, length, take, drop, get_or, map, refl, sym, ap, ap₂, ◌∙◌, append_assoc, arith, le-leb}
use Rattle.std.proofs.Common.{Option, Some, None, IfSome, IfNone, Result, Ok, Err, IfOk, length-append}
use Rattle.std.specs.Prelude.{nat_le, is_some, option_map}
use Rattle.std.specs.List.{flat_map, AllByRecursion}
use Rattle.std.proofs.lemmas.Bool.{cond-true}
use Rattle.std.proofs.lemmas.List.{append-nil, take_at, drop_at, get_or_at}
use Rattle.si_base.specs.Fields.{two}
use Rattle.guide_model.specs.declared.descriptor.RawDesc.{RawDesc}
use Rattle.descriptors.specs.Descriptors.{descriptor_bytes, AreDescriptors}
use Rattle.table_bodies.specs.Entries.{TableEntry, entry_bytes, FitsEntry, desc_of, descriptors_in, EntryParts, loop_length, entry_length, split_in, Reads, value_in, with_more, entries_in}
use Rattle.table_bodies.proofs.Steps.{next_desc, come_from, and_more, next_entry, one_passed}

-- ---- descriptors

same_desc : (d : RawDesc) (rest : List ℕ) → desc_of d.tag (length d.body) (d.body ++ rest) ≡ d
same_desc d rest = ap (λ (body : List ℕ). let r : RawDesc = record { tag = d.tag; body = body } in r) (take_at d.body rest (length d.body) refl)

-- the bytes of descriptors are read as them
pub descs_back : (ds : List RawDesc) → descriptors_in (flat_map descriptor_bytes ds) ≡ Some ds
descs_back [] = refl
descs_back (d ∷ ds) =
    let rest = flat_map descriptor_bytes ds in
    next_desc d.tag (length d.body) (d.body ++ rest)
    ∙ cond-true (nat_le (length d.body) (length (d.body ++ rest))) _ None
    (le-leb (length d.body) (length (d.body ++ rest)) (omega (arith, length-append d.body rest)))
    ∙ ap₂ (λ (x : RawDesc) (bytes : List ℕ). option_map (λ descs. x ∷ descs) (descriptors_in bytes)) (same_desc d rest)
    (drop_at d.body rest (length d.body) refl)
    ∙ ap (λ (o : Option (List RawDesc)). option_map (λ descs. d ∷ descs) o) (descs_back ds)

pub one_back : (d : RawDesc) → descriptors_in (descriptor_bytes d) ≡ Some (d ∷ [])
one_back d = ap descriptors_in (sym (append-nil (descriptor_bytes d))) ∙ descs_back (d ∷ [])

-- what is read as descriptors is what the bytes are
pub read_is : {E : Type 0} (bytes : List ℕ) → ((i : ℕ) → get_or bytes i 0 < 256) → (r : Result (Option (List RawDesc)) E)
    → IfOk r (λ read. IfSome read (λ descs. AreDescriptors bytes descs))
    → IfOk r (λ read. IfNone read ((descs : List RawDesc) → AreDescriptors bytes descs → ⊥))
    → IfOk r (λ read. read ≡ descriptors_in bytes)
read_is bytes small (Err e) some none = tt
read_is bytes small (Ok (Some ds)) some none = sym (ap descriptors_in some.whole ∙ descs_back ds)
read_is bytes small (Ok None) some none = go (descriptors_in bytes) refl
  where
    go : (o : Option (List RawDesc)) → descriptors_in bytes ≡ o → None ≡ descriptors_in bytes
    go None e = sym e
    go (Some ds) e = absurd (none ds (come_from (length bytes) bytes ds small e))

-- ---- one entry

abbrev pub parts_of : TableEntry → EntryParts
parts_of e = record { fields = e.fields; descriptors = e.descriptors }

cut : (size told : ℕ) (fields ds rest bytes : List ℕ) → length fields ≡ size → told < 65536 → told % 4096 ≡ length ds
    → bytes ≡ fields ++ two told ++ ds ++ rest → split_in size bytes ≡ Some (record { fields = fields; descriptors = ds }, rest)
cut size told fields ds rest bytes its small tells whole =
    let high = told / 256 % 256 in
    let low = told % 256 in
    let start : bytes ≡ fields ++ (high ∷ low ∷ (ds ++ rest)) = whole ∙ append_assoc (fields ++ two told) ds rest ∙ append_assoc fields (two told) (ds ++ rest) in
    let next : bytes ≡ (fields ++ high ∷ []) ++ (low ∷ (ds ++ rest)) = start ∙ sym (append_assoc fields (high ∷ []) (low ∷ (ds ++ rest))) in
    let high_at : get_or bytes size 0 ≡ high = ap (λ (l : List ℕ). get_or l size 0) start ∙ get_or_at fields high (low ∷ (ds ++ rest)) 0 size its in
    let low_at : get_or bytes (size + 1) 0 ≡ low =
    ap (λ (l : List ℕ). get_or l (size + 1) 0) next
    ∙ get_or_at (fields ++ high ∷ []) low (ds ++ rest) 0 (size + 1) (omega (arith, its, length-append fields (high ∷ []))) in
    let loop : loop_length size bytes ≡ length ds = omega (arith, high_at, low_at, tells, small) in
    let all : length bytes ≡ size + 2 + length ds + length rest =
    omega (arith, its, ap length start, length-append fields (high ∷ low ∷ (ds ++ rest)), length-append ds rest) in
    let enough : nat_le (entry_length size bytes) (length bytes) ≡ true = le-leb (entry_length size bytes) (length bytes) (omega (arith, all, loop)) in
    let inside : drop (size + 2) bytes ≡ ds ++ rest =
    ap (λ (l : List ℕ). drop (size + 2) l) (whole ∙ append_assoc (fields ++ two told) ds rest)
    ∙ drop_at (fields ++ two told) (ds ++ rest) (size + 2) (omega (arith, its, length-append fields (two told))) in
    let fields_are : take size bytes ≡ fields = ap (take size) start ∙ take_at fields (high ∷ low ∷ (ds ++ rest)) size its in
    let loop_is : take (loop_length size bytes) (drop (size + 2) bytes) ≡ ds =
    ap₂ (λ (n : ℕ) (l : List ℕ). take n l) loop inside ∙ take_at ds rest (length ds) refl in
    let behind : drop (entry_length size bytes) bytes ≡ rest =
    ap (λ (n : ℕ). drop (size + 2 + n) bytes) loop ∙ ap (λ (l : List ℕ). drop (size + 2 + length ds) l) whole
    ∙ drop_at (fields ++ two told ++ ds) rest (size + 2 + length ds) (omega (arith, its, length-append (fields ++ two told) ds, length-append fields (two told))) in
    cond-true (nat_le (entry_length size bytes) (length bytes)) _ None enough
    ∙ (λ i. Some (record { fields = fields_are i; descriptors = loop_is i }, behind i))

-- an entry that was written is cut off, whatever follows it
pub split_back : (size : ℕ) (e : TableEntry) (rest : List ℕ) → FitsEntry size e → split_in size (entry_bytes e ++ rest) ≡ Some (parts_of e, rest)
split_back size e rest fits =
    cut size (4096 * e.bits + length e.descriptors) e.fields e.descriptors rest (entry_bytes e ++ rest) fits.fields
    (omega (arith, fits.bits, fits.descriptors)) (omega (arith, fits.descriptors)) refl

-- an entry has bytes
pub entry_some : (e : TableEntry) (rest : List ℕ) → 0 < length (entry_bytes e ++ rest)
entry_some e rest =
    let told = two (4096 * e.bits + length e.descriptors) in
    omega (arith, length-append (entry_bytes e) rest, length-append (e.fields ++ told) e.descriptors, length-append e.fields told)

-- ---- entries

-- the entries of values, which are read as what is shown of them
pub entries_back : {X Y : Type 0} (size : ℕ) (value_of : Reads X) (make : Y → TableEntry) (shown : Y → X) (ys : List Y)
    → AllByRecursion (λ (y : Y). FitsEntry size (make y) × (value_in value_of (parts_of (make y)) ≡ Some (shown y))) ys
    → entries_in size value_of (flat_map (λ (y : Y). entry_bytes (make y)) ys) ≡ Some (map shown ys)
entries_back size value_of make shown [] are = refl
entries_back {X} {Y} size value_of make shown (y ∷ ys) are =
    let rest = flat_map (λ (y : Y). entry_bytes (make y)) ys in
    next_entry size value_of (entry_bytes (make y) ++ rest) (entry_some (make y) rest)
    ∙ ap (and_more size value_of) (split_back size (make y) rest are.0.0)
    ∙ ap₂ with_more are.0.1 (entries_back size value_of make shown ys are.1)

-- and the entries of values that are read at all
pub entries_read : {X Y : Type 0} (size : ℕ) (value_of : Reads X) (make : Y → TableEntry) (ys : List Y)
    → AllByRecursion (λ (y : Y). FitsEntry size (make y) × (is_some (value_in value_of (parts_of (make y))) ≡ true)) ys
    → is_some (entries_in size value_of (flat_map (λ (y : Y). entry_bytes (make y)) ys)) ≡ true
entries_read size value_of make [] are = refl
entries_read {X} {Y} size value_of make (y ∷ ys) are =
    let rest = flat_map (λ (y : Y). entry_bytes (make y)) ys in
    one_passed size value_of (entry_bytes (make y) ++ rest) (parts_of (make y)) rest (entry_some (make y) rest) (sym (split_back size (make y) rest are.0.0))
    ∙ ap₂ (λ (a b : Bool). a && b) are.0.1 (entries_read size value_of make ys are.1)
