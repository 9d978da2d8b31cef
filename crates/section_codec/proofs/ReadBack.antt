-- Reading a written section gives it back.
use Rattle.std.proofs.Common.{◌≡◌, ℕ, ◌+◌, ◌-◌, ◌*◌, ◌/◌, ◌%◌, ◌<◌, ◌≤◌, Bool, true, false, List, ◌∷◌, ◌++◌, length, take, drop, refl, sym, ap, ◌∙◌, arith, length-append, le-leb, eq-eqb}
use Rattle.std.specs.Prelude.{◌&&◌, ◌||◌, ◌==◌, not, if◌then◌else◌, nat_le, slice_index, Ok, Err}
use Rattle.std.proofs.lemmas.List.{get_or-append-add}
use Rattle.std.proofs.Math.Seq.{take-append_seam}
use Rattle.std.proofs.lemmas.Bool.{and_from}
use Rattle.si_base.specs.Fields.{four, four_at}
use Rattle.si_base.specs.Crc.{crc_of}
use Rattle.si_base.proofs.Remainder.{crc_of-lt, crc_of-own_crc}
use Rattle.section_codec.specs.Tables.{is_eit, has_long_form, has_short_form}
use Rattle.section_codec.specs.Section.{long_flags, current_bit, before_crc, section_bytes, short_bytes, before_short_crc, short_crc_bytes, longest_body, is_long, is_tot, least, section_length, long_header, long_body, short_body, kept_crc, found_crc, has_its_length, has_its_crc, has_long_syntax, has_its_syntax, section_of, section_in, FitsLong, FitsShort, LongReadsBack, ShortReadsBack, TotReadsBack}
use Rattle.section_codec.specs.declared.section.LongHeader.{LongHeader}
use Rattle.section_codec.specs.declared.section.Section.TheVariants.{Long, Short}
use Rattle.section_codec.specs.declared.section.BadSection.TheVariants.{Length, Crc, Syntax}

-- ---- lengths

pub length-before_crc : (h : LongHeader) (body : List ℕ) → length (before_crc h body) ≡ 8 + length body
length-before_crc h body = omega arith

pub length-section_bytes : (h : LongHeader) (body : List ℕ) → length (section_bytes h body) ≡ 12 + length body
length-section_bytes h body =
    length-append (before_crc h body) (four (crc_of (before_crc h body))) ∙ omega (arith, length-before_crc h body)

pub length-short_bytes : (table : ℕ) (body : List ℕ) → length (short_bytes table body) ≡ 3 + length body
length-short_bytes table body = omega arith

pub length-short_crc_bytes : (table : ℕ) (body : List ℕ) → length (short_crc_bytes table body) ≡ 7 + length body
length-short_crc_bytes table body =
    length-append (before_short_crc table body) (four (crc_of (before_short_crc table body))) ∙ omega arith

-- ---- the steps of reading

-- where none of the reasons applies, it is a section
pub section_in-section : (bytes : List ℕ) → has_its_length bytes ≡ true → has_its_crc bytes ≡ true → has_its_syntax bytes ≡ true → section_in bytes ≡ Ok (section_of bytes)
section_in-section bytes whole sound regular =
    ap (λ (b : Bool). if not b then Err Length else if not (has_its_crc bytes) then Err (Crc (kept_crc bytes) (found_crc bytes)) else if not (has_its_syntax bytes) then Err Syntax else Ok (section_of bytes)) whole
    ∙ ap (λ (b : Bool). if not b then Err (Crc (kept_crc bytes) (found_crc bytes)) else if not (has_its_syntax bytes) then Err Syntax else Ok (section_of bytes)) sound
    ∙ ap (λ (b : Bool). if not b then Err Syntax else Ok (section_of bytes)) regular

-- ---- four bytes at the end

four_at-end : (xs : List ℕ) (n : ℕ) → n < 4294967296 → four_at (length (xs ++ four n) - 4) (xs ++ four n) ≡ n
four_at-end xs n lt =
    let at : length (xs ++ four n) - 4 ≡ length xs = omega (arith, length-append xs (four n)) in
    let one : length xs + 0 ≡ length xs = omega arith in
    let two_more : length xs + 2 + 1 ≡ length xs + 3 = omega arith in
    ap (λ i. four_at i (xs ++ four n)) at
    ∙ omega (
      arith,
      ap (λ i. slice_index (xs ++ four n) i) one,
      ap (λ i. slice_index (xs ++ four n) i) two_more,
      get_or-append-add xs (four n) 0 0,
      get_or-append-add xs (four n) 1 0,
      get_or-append-add xs (four n) 2 0,
      get_or-append-add xs (four n) 3 0,
    )

take-end : (xs ys : List ℕ) → length ys ≡ 4 → take (length (xs ++ ys) - 4) (xs ++ ys) ≡ xs
take-end xs ys e =
    let at : length (xs ++ ys) - 4 ≡ length xs = omega (arith, length-append xs ys) in
    ap (λ i. take i (xs ++ ys)) at ∙ take-append_seam xs ys

-- ---- a section by its bytes

or_right : (a b : Bool) → b ≡ true → (a || b) ≡ true
or_right true b e = refl
or_right false b e = e

-- bytes that are just those that are told, and not too many or too few
its_length_is : (bytes : List ℕ) (fewest : ℕ) → least bytes ≡ fewest → 3 ≤ fewest → length bytes ≡ 3 + section_length bytes → length bytes ≤ 4096 → fewest ≤ length bytes → has_its_length bytes ≡ true
its_length_is bytes fewest is three told most some =
    and_from (nat_le 3 (length bytes) && length bytes == 3 + section_length bytes && nat_le (length bytes) 4096) (nat_le (least bytes) (length bytes))
    (and_from (nat_le 3 (length bytes) && length bytes == 3 + section_length bytes) (nat_le (length bytes) 4096)
    (and_from (nat_le 3 (length bytes)) (length bytes == 3 + section_length bytes) (le-leb 3 (length bytes) (omega arith)) (eq-eqb (length bytes) (3 + section_length bytes) told))
    (le-leb (length bytes) 4096 most))
    (le-leb (least bytes) (length bytes) (omega (arith, is)))

-- in the long form, with its CRC in four bytes behind the front
long_in : (t a b e f v n l crc : ℕ) (body : List ℕ)
    → a / 128 % 2 ≡ 1 → (256 * a + b) % 4096 ≡ 9 + length body → length body ≤ 4084
    → crc ≡ crc_of (t ∷ a ∷ b ∷ e ∷ f ∷ v ∷ n ∷ l ∷ body) → crc < 4294967296 → has_short_form t ≡ false → n ≤ l
    → section_in ((t ∷ a ∷ b ∷ e ∷ f ∷ v ∷ n ∷ l ∷ body) ++ four crc)
    ≡ Ok (Long (record { table = t; ext = 256 * e + f; version = v / 2 % 32; current = v % 2 == 1; number = n; last = l }) body)
long_in t a b e f v n l crc body high low le sound lt form order =
    let front = t ∷ a ∷ b ∷ e ∷ f ∷ v ∷ n ∷ l ∷ body in
    let bytes = front ++ four crc in
    let len : length bytes ≡ 12 + length body = length-append front (four crc) ∙ omega arith in
    let long : is_long bytes ≡ true = eq-eqb (a / 128 % 2) 1 high in
    let told : length bytes ≡ 3 + section_length bytes = omega arith in
    let fewest : least bytes ≡ 12 = ap (λ (x : Bool). if x then 12 else if is_tot bytes then 7 else 3) long in
    let its_length : has_its_length bytes ≡ true = its_length_is bytes 12 fewest (omega arith) told (omega arith) (omega arith) in
    let kept : kept_crc bytes ≡ crc = four_at-end front crc lt in
    let found : found_crc bytes ≡ crc = ap crc_of (take-end front (four crc) refl) ∙ sym sound in
    let its_crc : has_its_crc bytes ≡ true = or_right (not (is_long bytes || is_tot bytes)) (kept_crc bytes == found_crc bytes) (eq-eqb (kept_crc bytes) (found_crc bytes) (kept ∙ sym found)) in
    let its_syntax : has_its_syntax bytes ≡ true =
    ap (λ (x : Bool). if x then has_long_syntax bytes else not (has_long_form t)) long
    ∙ and_from (not (has_short_form t)) (nat_le n l) (ap not form) (le-leb n l order) in
    let at : length bytes - 12 ≡ length body = omega arith in
    let inner : long_body bytes ≡ body = ap (λ i. take i (body ++ four crc)) at ∙ take-append_seam body (four crc) in
    section_in-section bytes its_length its_crc its_syntax
    ∙ ap (λ (x : Bool). Ok (if x then Long (long_header bytes) (long_body bytes) else Short t (short_body bytes))) long
    ∙ ap (λ (x : List ℕ). Ok (Long (long_header bytes) x)) inner

-- in the short form
short_in : (t a b : ℕ) (body : List ℕ) → a / 128 % 2 ≡ 0 → (256 * a + b) % 4096 ≡ length body → length body ≤ 4093 → has_long_form t ≡ false → (t == 0x73) ≡ false
    → section_in (t ∷ a ∷ b ∷ body) ≡ Ok (Short t body)
short_in t a b body high low le form no_crc =
    let bytes = t ∷ a ∷ b ∷ body in
    let short : is_long bytes ≡ false = ap (λ x. x == 1) high in
    let told : length bytes ≡ 3 + section_length bytes = omega arith in
    let fewest : least bytes ≡ 3 =
    ap (λ (x : Bool). if x then 12 else if is_tot bytes then 7 else 3) short ∙ ap (λ (x : Bool). if x then 7 else 3) no_crc in
    let its_length : has_its_length bytes ≡ true = its_length_is bytes 3 fewest (omega arith) told (omega arith) (omega arith) in
    let its_crc : has_its_crc bytes ≡ true =
    ap (λ (x : Bool). not (x || is_tot bytes) || kept_crc bytes == found_crc bytes) short ∙ ap (λ (x : Bool). not x || kept_crc bytes == found_crc bytes) no_crc in
    let its_syntax : has_its_syntax bytes ≡ true =
    ap (λ (x : Bool). if x then has_long_syntax bytes else not (has_long_form t)) short ∙ ap not form in
    section_in-section bytes its_length its_crc its_syntax
    ∙ ap (λ (x : Bool). Ok (if x then Long (long_header bytes) (long_body bytes) else Short t (short_body bytes))) short
    ∙ ap (λ (x : Bool). Ok (Short t (if x then take (length bytes - 7) body else body))) no_crc

-- the TOT, with its CRC in four bytes behind the front
tot_in : (a b crc : ℕ) (body : List ℕ) → a / 128 % 2 ≡ 0 → (256 * a + b) % 4096 ≡ 4 + length body → length body ≤ 4089
    → crc ≡ crc_of (0x73 ∷ a ∷ b ∷ body) → crc < 4294967296 → section_in ((0x73 ∷ a ∷ b ∷ body) ++ four crc) ≡ Ok (Short 0x73 body)
tot_in a b crc body high low le sound lt =
    let front = 0x73 ∷ a ∷ b ∷ body in
    let bytes = front ++ four crc in
    let len : length bytes ≡ 7 + length body = length-append front (four crc) ∙ omega arith in
    let short : is_long bytes ≡ false = ap (λ x. x == 1) high in
    let told : length bytes ≡ 3 + section_length bytes = omega arith in
    let fewest : least bytes ≡ 7 = ap (λ (x : Bool). if x then 12 else 7) short in
    let its_length : has_its_length bytes ≡ true = its_length_is bytes 7 fewest (omega arith) told (omega arith) (omega arith) in
    let kept : kept_crc bytes ≡ crc = four_at-end front crc lt in
    let found : found_crc bytes ≡ crc = ap crc_of (take-end front (four crc) refl) ∙ sym sound in
    let its_crc : has_its_crc bytes ≡ true =
    or_right (not (is_long bytes || is_tot bytes)) (kept_crc bytes == found_crc bytes) (eq-eqb (kept_crc bytes) (found_crc bytes) (kept ∙ sym found)) in
    let its_syntax : has_its_syntax bytes ≡ true =
    ap (λ (x : Bool). if x then has_long_syntax bytes else true) short in
    let at : length bytes - 7 ≡ length body = omega arith in
    let inner : take (length bytes - 7) (body ++ four crc) ≡ body = ap (λ i. take i (body ++ four crc)) at ∙ take-append_seam body (four crc) in
    section_in-section bytes its_length its_crc its_syntax
    ∙ ap (λ (x : Bool). Ok (if x then Long (long_header bytes) (long_body bytes) else Short 0x73 (short_body bytes))) short
    ∙ ap (λ (x : List ℕ). Ok (Short 0x73 x)) inner

-- ---- written and read

-- the second and the third byte
flags_high : (table n : ℕ) → n < 4096 → (long_flags table + n) / 256 % 256 / 128 % 2 ≡ 1
flags_high table n lt = go (table == 0x00 || table == 0x02)
  where
    go : (b : Bool) → ((if b then 0xB000 else 0xF000) + n) / 256 % 256 / 128 % 2 ≡ 1
    go true = omega arith
    go false = omega arith

flags_low : (table n : ℕ) → n < 4096 → (256 * ((long_flags table + n) / 256 % 256) + (long_flags table + n) % 256) % 4096 ≡ n
flags_low table n lt = go (table == 0x00 || table == 0x02)
  where
    go : (b : Bool) → (256 * (((if b then 0xB000 else 0xF000) + n) / 256 % 256) + ((if b then 0xB000 else 0xF000) + n) % 256) % 4096 ≡ n
    go true = omega arith
    go false = omega arith

pub within : (table n : ℕ) → n ≤ longest_body table → n ≤ 4084
within table n le = go (is_eit table) le
  where
    go : (b : Bool) → n ≤ (if b then 4084 else 1012) → n ≤ 4084
    go true le = le
    go false le = omega arith

-- version and current_next_indicator in their byte
version_of : (version : ℕ) (current : Bool) → version < 32 → (0xC0 + 2 * version + current_bit current) / 2 % 32 ≡ version
version_of version true lt = omega arith
version_of version false lt = omega arith

current_of : (version : ℕ) (current : Bool) → ((0xC0 + 2 * version + current_bit current) % 2 == 1) ≡ current
current_of version true = eq-eqb ((0xC0 + 2 * version + 1) % 2) 1 (omega arith)
current_of version false = ap (λ n. n == 1) (let e : (0xC0 + 2 * version + 0) % 2 ≡ 0 = omega arith in e)

same_header : (h : LongHeader) (ext version : ℕ) (current : Bool) → ext ≡ h.ext → version ≡ h.version → current ≡ h.current
    → ◌≡◌ {A = LongHeader} (record { table = h.table; ext = ext; version = version; current = current; number = h.number; last = h.last }) h
same_header h ext version current e v c = λ i. record { table = h.table; ext = e i; version = v i; current = c i; number = h.number; last = h.last }

pub section_in-section_bytes : LongReadsBack
section_in-section_bytes h body fits =
    let le : length body ≤ 4084 = within h.table (length body) fits.within in
    let flags = long_flags h.table + (9 + length body) in
    long_in h.table (flags / 256 % 256) (flags % 256) (h.ext / 256 % 256) (h.ext % 256) (0xC0 + 2 * h.version + current_bit h.current) h.number h.last
    (crc_of (before_crc h body)) body
    (flags_high h.table (9 + length body) (omega arith)) (flags_low h.table (9 + length body) (omega arith)) le refl (crc_of-lt (before_crc h body)) fits.form fits.number
    ∙ ap (λ (x : LongHeader). Ok (Long x body)) (same_header h _ _ _
    (let e : 256 * (h.ext / 256 % 256) + h.ext % 256 ≡ h.ext = omega (arith, fits.ext) in e)
    (version_of h.version h.current fits.version) (current_of h.version h.current))

pub section_in-short_bytes : ShortReadsBack
section_in-short_bytes table body fits =
    short_in table ((0x7000 + length body) / 256 % 256) ((0x7000 + length body) % 256) body (omega (arith, fits.within)) (omega (arith, fits.within)) fits.within fits.form fits.no_crc

pub section_in-short_crc_bytes : TotReadsBack
section_in-short_crc_bytes body le =
    tot_in ((0x7000 + (4 + length body)) / 256 % 256) ((0x7000 + (4 + length body)) % 256) (crc_of (before_short_crc 0x73 body)) body
    (omega (arith, le)) (omega (arith, le)) le refl (crc_of-lt (before_short_crc 0x73 body))

-- ---- what section_length of written sections tells

pub section_length-section_bytes : (h : LongHeader) (body : List ℕ) → FitsLong h body → section_length (section_bytes h body) ≡ 9 + length body
section_length-section_bytes h body fits = flags_low h.table (9 + length body) (omega (arith, within h.table (length body) fits.within))

pub section_length-short_bytes : (table : ℕ) (body : List ℕ) → FitsShort table body → section_length (short_bytes table body) ≡ length body
section_length-short_bytes table body fits = omega (arith, fits.within)

pub section_length-short_crc_bytes : (body : List ℕ) → length body ≤ 4089 → section_length (short_crc_bytes 0x73 body) ≡ 4 + length body
section_length-short_crc_bytes body le = omega (arith, le)

pub length-section_bytes-le : (h : LongHeader) (body : List ℕ) → FitsLong h body → length (section_bytes h body) ≤ 4096
length-section_bytes-le h body fits = omega (arith, length-section_bytes h body, within h.table (length body) fits.within)

pub length-short_bytes-le : (table : ℕ) (body : List ℕ) → FitsShort table body → length (short_bytes table body) ≤ 4096
length-short_bytes-le table body fits = omega (arith, length-short_bytes table body, fits.within)

-- a written section with its CRC has the CRC 0
pub crc_of-section_bytes : (h : LongHeader) (body : List ℕ) → crc_of (section_bytes h body) ≡ 0
crc_of-section_bytes h body = crc_of-own_crc (before_crc h body)
