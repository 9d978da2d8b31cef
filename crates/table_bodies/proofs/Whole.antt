-- Bytes that are read are entries, and entries are read.
use Rattle.std.proofs.Common.{◌≡◌, ℕ, zero, suc, ◌+◌, ◌*◌, ◌/◌, ◌%◌, ◌<◌, ◌≤◌, Bool, true, false, List, [], ◌∷◌, ◌++◌, length, take, drop, get_or, refl, sym, ap, ap₂, subst, ◌∙◌, arith}
use Rattle.std.proofs.Common.{Option, Some, None, append_assoc}
use Rattle.std.specs.Prelude.{nat_le, option_and_then, if◌then◌else◌}
use Rattle.std.specs.List.{flat_map, AllByRecursion}
use Rattle.std.proofs.lemmas.Bool.{leb-true}
use Rattle.std.proofs.lemmas.List.{length-drop, length-take-le, take-append-drop, drop-drop, drop_more}
use Rattle.si_lists.proofs.Lists.{all_front, all_behind}
use Rattle.si_lists.proofs.Outcomes.{some_same}
use Rattle.si_base.specs.Fields.{two, two_at}
use Rattle.guide_model.specs.declared.descriptor.RawDesc.{RawDesc}
use Rattle.table_bodies.specs.Entries.{TableEntry, entry_bytes, FitsEntry, descriptors_in, EntryParts, loop_length, entry_length, parts_at, split_in, Reads, value_in, with_more, entries_within, entries_in}
use Rattle.table_bodies.specs.Laws.{IsReadAs, AreReadAs, AreEntries, AreBytes, EntriesAreRead}
use Rattle.table_bodies.proofs.Steps.{come_from, and_more, next_entry}
use Rattle.table_bodies.proofs.EntryWritten.{descs_back, parts_of, split_back, entry_some}

byte_at : (xs : List ℕ) → AreBytes xs → (i : ℕ) → get_or xs i 0 < 256
byte_at [] all i = omega arith
byte_at (x ∷ xs) all zero = all.0
byte_at (x ∷ xs) all (suc i) = byte_at xs all.1 i

-- ---- one entry

-- the entry that was cut off, and that it stands at the front
record Cut (size : ℕ) (bytes : List ℕ) (parts : EntryParts × List ℕ) : Type 0 where
  entry : TableEntry
  fits : FitsEntry size entry
  fields : parts.0 ≡ parts_of entry
  whole : bytes ≡ entry_bytes entry ++ parts.1

cut_from : (size : ℕ) (bytes : List ℕ) → AreBytes bytes → entry_length size bytes ≤ length bytes
    → Cut size bytes (parts_at size bytes, drop (entry_length size bytes) bytes)
cut_from size bytes all enough =
    let len = loop_length size bytes in
    let field = two_at size bytes in
    let high = get_or bytes size 0 in
    let low = get_or bytes (size + 1) 0 in
    let high_fits = byte_at bytes all size in
    let low_fits = byte_at bytes all (size + 1) in
    let inside = drop (size + 2) bytes in
    let its : length (take len inside) ≡ len = length-take-le len inside (omega (arith, enough, length-drop (size + 2) bytes)) in
    let told : 4096 * (field / 4096) + length (take len inside) ≡ field = omega (arith, its) in
    let high_is : high ≡ (4096 * (field / 4096) + length (take len inside)) / 256 % 256 = omega (arith, told, high_fits, low_fits) in
    let low_is : low ≡ (4096 * (field / 4096) + length (take len inside)) % 256 = omega (arith, told, high_fits, low_fits) in
    let fields = take size bytes in
    let two_more : size + 1 + 1 ≡ size + 2 = omega arith in
    let second : drop (size + 1) bytes ≡ low ∷ inside = drop_more bytes (size + 1) 0 (omega (arith, enough))
    ∙ ap (λ (n : ℕ). low ∷ drop n bytes) two_more in
    let first : drop size bytes ≡ high ∷ low ∷ inside = drop_more bytes size 0 (omega (arith, enough)) ∙ ap (λ (l : List ℕ). high ∷ l) second in
    let entry : TableEntry = record { fields = fields; bits = field / 4096; descriptors = take len inside } in
    let behind : drop len inside ≡ drop (entry_length size bytes) bytes = drop-drop len (size + 2) bytes in
    let apart : bytes ≡ fields ++ (high ∷ low ∷ (take len inside ++ drop len inside)) =
    sym (take-append-drop size bytes)
    ∙ ap (λ (l : List ℕ). fields ++ l) (first ∙ ap (λ (l : List ℕ). high ∷ low ∷ l) (sym (take-append-drop len inside))) in
    record {
      entry = entry;
      fits = record {
        fields = length-take-le size bytes (omega (arith, enough));
        bits = omega (arith, high_fits, low_fits);
        descriptors = omega (arith, its);
      };
      fields = refl;
      whole =
          apart ∙ ap₂ (λ (a b : ℕ). fields ++ (a ∷ b ∷ (take len inside ++ drop len inside))) high_is low_is
          ∙ sym (append_assoc (fields ++ two (4096 * entry.bits + length entry.descriptors)) entry.descriptors (drop len inside)
          ∙ append_assoc fields (two (4096 * entry.bits + length entry.descriptors)) (entry.descriptors ++ drop len inside))
          ∙ ap (λ (l : List ℕ). entry_bytes entry ++ l) behind;
    }

split_from : (size : ℕ) (bytes : List ℕ) (parts : EntryParts × List ℕ) → AreBytes bytes → split_in size bytes ≡ Some parts → Cut size bytes parts
split_from size bytes parts all e = go (nat_le (entry_length size bytes) (length bytes)) refl e
  where
    go : (t : Bool) → nat_le (entry_length size bytes) (length bytes) ≡ t
        → (if t then Some (parts_at size bytes, drop (entry_length size bytes) bytes) else None) ≡ Some parts → Cut size bytes parts
    go false is h = cc
    go true is h = subst (Cut size bytes) (some_same h) (cut_from size bytes all (leb-true (entry_length size bytes) (length bytes) is))

-- what an entry is read as
value_from : {X : Type 0} (value_of : Reads X) (e : TableEntry) (x : X) → AreBytes e.descriptors → value_in value_of (parts_of e) ≡ Some x
    → IsReadAs value_of e x
value_from value_of e x all is = go (descriptors_in e.descriptors) refl is
  where
    go : (o : Option (List RawDesc)) → descriptors_in e.descriptors ≡ o → option_and_then (value_of e.fields) o ≡ Some x → IsReadAs value_of e x
    go None at h = cc
    go (Some descs) at h = record {
      descs = descs;
      loop = come_from (length e.descriptors) e.descriptors descs (byte_at e.descriptors all) at;
      says = h;
    }

-- ---- entries

entries_from : {X : Type 0} (size : ℕ) (value_of : Reads X) (n : ℕ) (bytes : List ℕ) (values : List X) → AreBytes bytes
    → entries_within size value_of n bytes ≡ Some values → AreEntries size value_of bytes values
entries_from size value_of n [] values all e =
    subst (AreEntries size value_of []) (some_same e) (record { entries = []; whole = refl; fits = tt; read = tt })
entries_from size value_of zero (b ∷ bytes) values all e = cc
entries_from {X} size value_of (suc n) (b ∷ bytes) values all e = go (split_in size (b ∷ bytes)) refl (entries_from size value_of n) e
  where
    Later : Type 0
    Later = (rest : List ℕ) (more : List X) → AreBytes rest → entries_within size value_of n rest ≡ Some more → AreEntries size value_of rest more

    both : (parts : EntryParts × List ℕ) → Cut size (b ∷ bytes) parts → Later → (v : Option X) → value_in value_of parts.0 ≡ v
        → (m : Option (List X)) → entries_within size value_of n parts.1 ≡ m → with_more v m ≡ Some values → AreEntries size value_of (b ∷ bytes) values
    both parts cut later None is m are h = cc
    both parts cut later (Some x) is None are h = cc
    both parts cut later (Some x) is (Some more) are h =
        let entry = cut.entry in
        let told = two (4096 * entry.bits + length entry.descriptors) in
        let whole = subst AreBytes cut.whole all in
        let rest = later parts.1 more (all_behind _ (entry_bytes entry) parts.1 whole) are in
        let inside = all_behind _ (entry.fields ++ told) entry.descriptors (all_front _ (entry_bytes entry) parts.1 whole) in
        subst (AreEntries size value_of (b ∷ bytes)) (some_same h) (record {
          entries = entry ∷ rest.entries;
          whole = cut.whole ∙ ap (λ (l : List ℕ). entry_bytes entry ++ l) rest.whole;
          fits = (cut.fits, rest.fits);
          read = (value_from value_of entry x inside (ap (value_in value_of) (sym cut.fields) ∙ is), rest.read);
        })

    go : (o : Option (EntryParts × List ℕ)) → split_in size (b ∷ bytes) ≡ o → Later
        → option_and_then (λ (parts : EntryParts × List ℕ). with_more (value_in value_of parts.0) (entries_within size value_of n parts.1)) o ≡ Some values
        → AreEntries size value_of (b ∷ bytes) values
    go None is later h = cc
    go (Some parts) is later h =
        both parts (split_from size (b ∷ bytes) parts all is) later (value_in value_of parts.0) refl (entries_within size value_of n parts.1) refl h

entries_to : {X : Type 0} (size : ℕ) (value_of : Reads X) (es : List TableEntry) (values : List X) → AllByRecursion (FitsEntry size) es
    → AreReadAs value_of es values → entries_in size value_of (flat_map entry_bytes es) ≡ Some values
entries_to size value_of [] [] fits read = refl
entries_to size value_of [] (v ∷ values) fits read = absurd read
entries_to size value_of (e ∷ es) [] fits read = absurd read
entries_to size value_of (e ∷ es) (v ∷ values) fits read =
    let rest = flat_map entry_bytes es in
    next_entry size value_of (entry_bytes e ++ rest) (entry_some e rest)
    ∙ ap (and_more size value_of) (split_back size e rest fits.0)
    ∙ ap₂ with_more (ap (option_and_then (value_of e.fields)) (ap descriptors_in read.0.loop.whole ∙ descs_back read.0.descs) ∙ read.0.says)
    (entries_to size value_of es values fits.1 read.1)

pub entries_are_read : {X : Type 0} (size : ℕ) (value_of : Reads X) → EntriesAreRead size value_of
entries_are_read size value_of bytes values all = (
  entries_from size value_of (length bytes) bytes values all,
  λ is. ap (entries_in size value_of) is.whole ∙ entries_to size value_of is.entries values is.fits is.read,
)
