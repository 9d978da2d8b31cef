-- Loops of descriptors that say offsets, and the bodies of time offset tables.
use Rattle.std.proofs.Common.{◌≡◌, ◌∙◌, ℕ, zero, suc, ◌+◌, ◌-◌, ◌*◌, ◌/◌, ◌%◌, ◌<◌, ◌≤◌, ◌==◌, Bool, true, List, [], ◌∷◌, ◌++◌, length, take, drop, get_or, Option, Some, None, refl, sym, ap, ap₂, subst, subst₂, arith, append_assoc, append-nil, length-append, length-drop, le-leb, eq-eqb}
use Rattle.std.specs.Prelude.{if◌then◌else◌, nat_le, unwrap_or, Ok}
use Rattle.std.specs.Option.{option_map}
use Rattle.std.specs.List.{AllByRecursion}
use Rattle.std.proofs.lemmas.Bool.{lt-leb}
use Rattle.std.proofs.lemmas.List.{take_at, drop_at, take_all, drop_all}
use Rattle.si_base.specs.Fields.{two}
use Rattle.si_time.specs.Moments.{moment_bcd}
use Rattle.si_time.specs.Readings.{moment_from_bcd}
use Rattle.si_time.specs.declared.moment.Moment.{Moment}
use Rattle.si_time.proofs.RoundTrips.{moment_from_bcd-moment_bcd, length-moment_bcd}
use Rattle.guide_model.specs.declared.offset.Offset.{Offset}
use Rattle.section_codec.proofs.ReadBack.{length-short_crc_bytes, section_in-short_crc_bytes}
use Rattle.time_tables.specs.declared.tot.Tot.{Tot}
use Rattle.time_tables.specs.LocalOffsets.{offsets_body, local_offsets, offsets_in, FitsOffset}
use Rattle.time_tables.specs.Tot.{tot_body, tot_section, told_by, with_told, told_within, told_in, tot_with, tot_in, AreSent, TotIsASection, TotReadsBack}
use Rattle.time_tables.proofs.Offsets.{length-offsets_body, offsets-read_back}

-- ---- a loop that is read from the front

-- these offsets were said in front of the rest, and with what the rest says they are all
pub record Goes (bytes : List ℕ) (told : List Offset) (rest : List ℕ) : Type 0 where
  pub n : ℕ
  pub enough : length rest ≤ n
  pub same : told_within (length bytes) bytes ≡ with_told told (told_within n rest)

none_told : (o : Option (List Offset)) → with_told [] o ≡ o
none_told None = refl
none_told (Some told) = refl

pub begun : (bytes : List ℕ) → Goes bytes [] bytes
begun bytes = record { n = length bytes; enough = omega arith; same = sym (none_told (told_within (length bytes) bytes)) }

more_told : (a b : List Offset) (o : Option (List Offset)) → with_told a (with_told b o) ≡ with_told (a ++ b) o
more_told a b None = refl
more_told a b (Some told) = ap (λ (l : List Offset). Some l) (sym (append_assoc a b told))

one_more : (tag len : ℕ) (behind : List ℕ) (n : ℕ) → 2 + length behind ≤ n → len ≤ length behind
    → told_within n (tag ∷ len ∷ behind) ≡ with_told (told_by tag (take len behind)) (told_within (n - 1) (drop len behind))
one_more tag len behind zero enough fits = absurd (omega (arith, enough))
one_more tag len behind (suc n) enough fits =
    let same : n ≡ suc n - 1 = omega arith in
    ap (λ (b : Bool). let r : Option (List Offset) = if b then with_told (told_by tag (take len behind)) (told_within n (drop len behind)) else None in r) (le-leb len (length behind) fits)
    ∙ ap (λ (k : ℕ). with_told (told_by tag (take len behind)) (told_within k (drop len behind))) same

pub goes_on : (bytes : List ℕ) (told : List Offset) (rest : List ℕ) → Goes bytes told rest → 2 ≤ length rest → get_or rest 1 0 ≤ length (drop 2 rest)
    → Goes bytes (told ++ told_by (get_or rest 0 0) (take (get_or rest 1 0) (drop 2 rest))) (drop (get_or rest 1 0) (drop 2 rest))
goes_on bytes told [] goes two fits = absurd (omega arith)
goes_on bytes told (tag ∷ []) goes two fits = absurd (omega arith)
goes_on bytes told (tag ∷ len ∷ behind) goes two fits =
    let enough = goes.enough in
    record {
      n = goes.n - 1;
      enough = omega (arith, enough, length-drop len behind);
      same = goes.same ∙ ap (with_told told) (one_more tag len behind goes.n (omega (arith, enough)) fits)
          ∙ more_told told (told_by tag (take len behind)) (told_within (goes.n - 1) (drop len behind));
    }

-- as it is cut: the rest behind tag and length, the body and what stands behind it
pub goes_by : (bytes : List ℕ) (told : List Offset) (rest : List ℕ) → Goes bytes told rest → 2 ≤ length rest → (behind : List ℕ) → behind ≡ take (length rest - 2) (drop 2 rest)
    → (tag len : ℕ) → tag ≡ get_or rest 0 0 → len ≡ get_or rest 1 0 → len ≤ length behind → (body after : List ℕ) (now : List Offset) → body ≡ take len behind → after ≡ drop len behind
    → now ≡ told ++ told_by tag body → Goes bytes now after
goes_by bytes told rest goes two behind is tag len tag_is len_is fits body after now body_is after_is now_is =
    let all : behind ≡ drop 2 rest = is ∙ take_all (length rest - 2) (drop 2 rest) (omega (arith, length-drop 2 rest)) in
    let there : get_or rest 1 0 ≤ length (drop 2 rest) = omega (arith, fits, len_is, ap length all) in
    let told_is : now ≡ told ++ told_by (get_or rest 0 0) (take (get_or rest 1 0) (drop 2 rest)) =
    now_is ∙ ap₂ (λ (t : ℕ) (b : List ℕ). told ++ told_by t b) tag_is (body_is ∙ ap₂ (λ (n : ℕ) (l : List ℕ). take n l) len_is all) in
    let rest_is : after ≡ drop (get_or rest 1 0) (drop 2 rest) = after_is ∙ ap₂ (λ (n : ℕ) (l : List ℕ). drop n l) len_is all in
    subst₂ (Goes bytes) (sym told_is) (sym rest_is) (goes_on bytes told rest goes two there)

pub past_end : (bytes : List ℕ) (told : List Offset) (rest : List ℕ) → Goes bytes told rest → 2 ≤ length rest → length (drop 2 rest) < get_or rest 1 0
    → told_within (length bytes) bytes ≡ None
past_end bytes told [] goes two past = absurd (omega arith)
past_end bytes told (tag ∷ []) goes two past = absurd (omega arith)
past_end bytes told (tag ∷ len ∷ behind) goes two past = goes.same ∙ ap (with_told told) (none goes.n (let enough = goes.enough in omega (arith, enough)))
  where
    none : (n : ℕ) → 2 + length behind ≤ n → told_within n (tag ∷ len ∷ behind) ≡ None
    none zero enough = absurd (omega (arith, enough))
    none (suc n) enough =
        ap (λ (b : Bool). let r : Option (List Offset) = if b then with_told (told_by tag (take len behind)) (told_within n (drop len behind)) else None in r) (lt-leb len (length behind) past)

pub left_over : (bytes : List ℕ) (told : List Offset) (rest : List ℕ) → Goes bytes told rest → length rest ≡ 1 → told_within (length bytes) bytes ≡ None
left_over bytes told [] goes one = absurd (omega arith)
left_over bytes told (tag ∷ []) goes one = goes.same
left_over bytes told (tag ∷ len ∷ behind) goes one = absurd (omega arith)

pub at_end : (bytes : List ℕ) (told : List Offset) (rest : List ℕ) → Goes bytes told rest → length rest ≡ 0 → told_within (length bytes) bytes ≡ Some told
at_end bytes told [] goes none = goes.same ∙ ap (λ (l : List Offset). Some l) (append-nil told)
at_end bytes told (b ∷ rest) goes none = absurd (omega arith)

-- ---- what is written

pub length-local_offsets : (offsets : List Offset) → AllByRecursion FitsOffset offsets → length (local_offsets offsets) ≡ 2 + 13 * length offsets
length-local_offsets offsets fit = omega (arith, length-offsets_body offsets fit)

pub length-tot_body : (at : ℕ) (offsets : List Offset) → AllByRecursion FitsOffset offsets → length (tot_body at offsets) ≡ 9 + 13 * length offsets
length-tot_body at offsets fit =
    let all = local_offsets offsets in
    omega (
      arith,
      length-append (moment_bcd at) (two (0xF000 + length all) ++ all),
      length-append (two (0xF000 + length all)) all,
      length-moment_bcd at,
      length-local_offsets offsets fit,
    )

-- the section, whatever the offsets are
pub length-tot_section : (at : ℕ) (offsets : List Offset) → length (tot_section at offsets) ≡ 16 + length (offsets_body offsets)
length-tot_section at offsets =
    let all = local_offsets offsets in
    omega (
      arith,
      length-short_crc_bytes 0x73 (tot_body at offsets),
      length-append (moment_bcd at) (two (0xF000 + length all) ++ all),
      length-append (two (0xF000 + length all)) all,
      length-moment_bcd at,
    )

pub tot-is_a_section : TotIsASection
tot-is_a_section at offsets sent =
    section_in-short_crc_bytes (tot_body at offsets) (omega (arith, length-tot_body at offsets sent.each, sent.few))

-- one descriptor
one_told : (body : List ℕ) (offsets : List Offset) (n : ℕ) → 1 ≤ n → offsets_in body ≡ Some offsets → told_within n (0x58 ∷ length body ∷ body) ≡ Some offsets
one_told body offsets zero some read = absurd (omega arith)
one_told body offsets (suc n) some read =
    ap (λ (b : Bool). let r : Option (List Offset) = if b then with_told (told_by 0x58 (take (length body) body)) (told_within n (drop (length body) body)) else None in r)
    (le-leb (length body) (length body) (omega arith))
    ∙ ap₂ (λ (x y : List ℕ). with_told (told_by 0x58 x) (told_within n y)) (take_all (length body) body (omega arith)) (drop_all (length body) body (omega arith))
    ∙ ap (λ (o : Option (List Offset)). let r : Option (List Offset) = Some (unwrap_or o [] ++ []) in r) read
    ∙ ap (λ (l : List Offset). Some l) (append-nil offsets)

-- a loop of one descriptor behind its length
pub loop_told : (offsets : List Offset) → AreSent offsets → told_in (two (0xF000 + length (local_offsets offsets)) ++ local_offsets offsets) ≡ Some offsets
loop_told offsets sent =
    let size = length-local_offsets offsets sent.each in
    let n = length (local_offsets offsets) in
    let told : (256 * ((0xF000 + n) / 256 % 256) + (0xF000 + n) % 256) % 4096 ≡ n = omega (arith, size, sent.few) in
    ap (λ (b : Bool). let r : Option (List Offset) = if b then told_within n (local_offsets offsets) else None in r) (eq-eqb _ n told)
    ∙ one_told (offsets_body offsets) offsets n (omega (arith, size)) (offsets-read_back offsets sent.each)

pub tot-reads_back : TotReadsBack
tot-reads_back at offsets lt sent =
    let loop = two (0xF000 + length (local_offsets offsets)) ++ local_offsets offsets in
    ap₂ (λ (x y : List ℕ). tot_with (moment_from_bcd x) (told_in y)) (take_at (moment_bcd at) loop 5 (length-moment_bcd at)) (drop_at (moment_bcd at) loop 5 (length-moment_bcd at))
    ∙ ap₂ tot_with (moment_from_bcd-moment_bcd at lt) (loop_told offsets sent)
