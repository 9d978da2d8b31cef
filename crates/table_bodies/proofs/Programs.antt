-- Written programs read back.
use Rattle.std.proofs.Common.{◌≡◌, ◌∙◌, ℕ, suc, ◌+◌, ◌*◌, ◌/◌, ◌%◌, ◌<◌, ◌≤◌, List, [], ◌∷◌, ◌++◌, length, map, Option, Some, None, IfSome, refl, sym, ap, arith, length-append}
use Rattle.std.specs.Prelude.{◌==◌, true, option_and_then}
use Rattle.std.specs.Option.{option_map}
use Rattle.std.specs.List.{flat_map}
use Rattle.si_lists.proofs.Lists.{all_map, three_of}
use Rattle.si_lists.proofs.Outcomes.{mapped}
use Rattle.si_base.specs.Fields.{two}
use Rattle.guide_model.specs.declared.stream.Component.{Component}
use Rattle.guide_model.specs.declared.screen.ScreenComponent.{ScreenComponent}
use Rattle.guide_model.specs.declared.descriptor.RawDesc.{RawDesc}
use Rattle.guide_model.specs.Descriptors.{descriptors_size}
use Rattle.descriptors.specs.Descriptors.{descriptors_bytes}
use Rattle.descriptors.specs.Languages.{languages_body, languages_in, is_one_language}
use Rattle.descriptors.proofs.Loops.{length-descriptors_bytes}
use Rattle.descriptors.proofs.ServiceEntries.{languages-read_back, length-languages_body}
use Rattle.table_bodies.specs.Entries.{FitsEntry, EntryParts, descriptors_in, made, value_in, entries_in}
use Rattle.table_bodies.proofs.EntryWritten.{descs_back, parts_of, split_back, entries_back}
use Rattle.table_bodies.proofs.FirstOnes.{first_front, without_front}
use Rattle.table_bodies.specs.declared.pat.PatEntry.{PatEntry}
use Rattle.table_bodies.specs.Pat.{program_of, pat_in, pat_body, is_pat_body, PatReadsBack, WrittenPatsAreRead}
use Rattle.table_bodies.specs.Pmt.{language_descriptors, component_entry, component_bytes, program_entry, first_language, component_in, program_in, pmt_with, shown_component, FitsComponent, PmtReadsBack}

pub pat-reads_back : PatReadsBack
pat-reads_back [] fit = refl
pat-reads_back (e ∷ entries) fit =
    let a = e.program / 256 % 256 in
    let b = e.program % 256 in
    let c = (57344 + e.pid) / 256 % 256 in
    let d = (57344 + e.pid) % 256 in
    let program : 256 * a + b ≡ e.program = omega (arith, fit.0.program) in
    let pid : (256 * c + d) % 8192 ≡ e.pid = omega (arith, fit.0.pid) in
    ap (λ read. option_map (λ more. program_of a b c d ∷ more) read) (pat-reads_back entries fit.1)
    ∙ ap (λ (n : ℕ). Some (record { program = n; pid = (256 * c + d) % 8192 } ∷ entries)) program
    ∙ ap (λ (n : ℕ). Some (record { program = e.program; pid = n } ∷ entries)) pid

four_more : (n : ℕ) → suc (suc (suc (suc n))) % 4 ≡ n % 4
four_more n = omega arith

-- bodies that are read have whole entries of four bytes
pub whole_entries : (body : List ℕ) → (length body % 4 == 0) ≡ is_pat_body body
whole_entries [] = refl
whole_entries (a ∷ []) = refl
whole_entries (a ∷ b ∷ []) = refl
whole_entries (a ∷ b ∷ c ∷ []) = refl
whole_entries (a ∷ b ∷ c ∷ d ∷ rest) =
    ap (λ (n : ℕ). n == 0) (four_more (length rest)) ∙ whole_entries rest
    ∙ mapped (λ (entries : List PatEntry). program_of a b c d ∷ entries) (pat_in rest)

pub written_pats : WrittenPatsAreRead
written_pats [] = refl
written_pats (e ∷ entries) = sym (mapped _ (pat_in (pat_body entries))) ∙ written_pats entries

-- ---- written, and read back

pid_back : (pid : ℕ) → pid < 8192 → (256 * ((57344 + pid) / 256 % 256) + (57344 + pid) % 256) % 8192 ≡ pid
pid_back pid lt = omega arith

same_component : (s p q : ℕ) (l m : Option (List ℕ)) (ds es : List RawDesc) → p ≡ q → l ≡ m → ds ≡ es
    → (let a : ScreenComponent = record { stream_type = s; pid = p; language = l; descriptors = ds } in
    let b : ScreenComponent = record { stream_type = s; pid = q; language = m; descriptors = es } in a ≡ b)
same_component s p q l m ds es e f g = λ i. record { stream_type = s; pid = e i; language = f i; descriptors = g i }

abbrev language_desc : List ℕ → RawDesc
language_desc l = record { tag = 0x0A; body = languages_body (l ∷ []) }

-- a language shows its descriptor whole
one_language : (l : List ℕ) → length l ≡ 3 → is_one_language (languages_body (l ∷ [])) ≡ true
one_language l three = let t = three_of l three in ap (λ (code : List ℕ). is_one_language (languages_body (code ∷ []))) t.3

-- the descriptors of a component
abbrev component_descs : Option (List ℕ) → List RawDesc → List RawDesc
component_descs None ds = ds
component_descs (Some l) ds = language_desc l ∷ ds

component_descs_back : (l : Option (List ℕ)) (ds : List RawDesc)
    → descriptors_in (language_descriptors l ++ descriptors_bytes ds) ≡ Some (component_descs l ds)
component_descs_back None ds = descs_back ds
component_descs_back (Some l) ds = descs_back (language_desc l ∷ ds)

-- what is read of a component, by its descriptors
read_by : (c : Component)
    → value_in component_in (parts_of (component_entry c)) ≡ component_in (component_entry c).fields (component_descs c.language c.descriptors)
read_by c = ap (option_and_then (component_in (component_entry c).fields)) (component_descs_back c.language c.descriptors)

component_back : (s p : ℕ) (l : Option (List ℕ)) (ds : List RawDesc) → p < 8192 → IfSome l (λ language. length language ≡ 3)
    → component_in (s ∷ two (0xE000 + p)) (component_descs l ds)
    ≡ Some (shown_component (record { stream_type = s; pid = p; language = l; descriptors = ds }))
component_back s p None ds lt three = ap (λ x. Some x) (same_component s _ p _ _ _ _ (pid_back p lt) refl refl)
component_back s p (Some l) ds lt three =
    let read = languages-read_back (l ∷ []) (three, tt) in
    let front = language_desc l in
    ap (λ x. Some x) (same_component s _ p _ (Some l) _ ds (pid_back p lt)
    (ap first_language (first_front 0x0A languages_in front ds (l ∷ []) read))
    (without_front 0x0A languages_in is_one_language front ds (l ∷ []) read (one_language l three)))

descriptors_few : (l : Option (List ℕ)) → IfSome l (λ language. length language ≡ 3) → length (language_descriptors l) ≤ 6
descriptors_few None three = omega arith
descriptors_few (Some l) three = omega (arith, length-languages_body (l ∷ []) (three, tt))

-- the descriptors of a component fit their length
pub length-component : (l : Option (List ℕ)) (ds : List RawDesc)
    → length (language_descriptors l ++ descriptors_bytes ds) ≡ length (language_descriptors l) + descriptors_size ds
length-component l ds = omega (arith, length-append (language_descriptors l) (descriptors_bytes ds), length-descriptors_bytes ds)

component_fits : (c : Component) → FitsComponent c → FitsEntry 3 (component_entry c)
component_fits c fits = record {
  fields = refl;
  bits = omega arith;
  descriptors = omega (arith, fits.writable.room, length-component c.language c.descriptors, descriptors_few c.language fits.language);
}

abbrev IsBack : Component → Type 0
IsBack c = FitsEntry 3 (component_entry c) × (value_in component_in (parts_of (component_entry c)) ≡ Some (shown_component c))

each_back : (c : Component) → FitsComponent c → IsBack c
each_back c fits = (
  component_fits c fits,
  read_by c ∙ component_back c.stream_type c.pid c.language c.descriptors fits.writable.pid fits.language,
)

pub pmt-reads_back : PmtReadsBack
pmt-reads_back p fits =
    let loop = flat_map component_bytes p.components in
    let program = program_entry p.pcr_pid p.descriptors in
    let each = all_map FitsComponent IsBack each_back p.components fits.components in
    let room : length program.descriptors < 4096 = omega (arith, fits.room, length-descriptors_bytes p.descriptors) in
    let read : Option (List ScreenComponent) = entries_in 3 component_in loop in
    ap (option_and_then (λ (parts : EntryParts × List ℕ). made pmt_with (value_in program_in parts.0) (entries_in 3 component_in parts.1)))
    (split_back 2 program loop (record { fields = refl; bits = omega arith; descriptors = room }))
    ∙ ap (λ (descs : Option (List RawDesc)). made pmt_with (option_and_then (program_in program.fields) descs) read) (descs_back p.descriptors)
    ∙ ap (option_map (pmt_with _)) (entries_back 3 component_in component_entry shown_component p.components each)
    ∙ ap (λ (pid : ℕ). Some (pmt_with (pid, p.descriptors) (map shown_component p.components))) (pid_back p.pcr_pid fits.pcr_pid)
