-- Sections whose neighbours share packets: the first stretch and what stands behind it, and that the packets carry the sections.
use Rattle.std.proofs.Common.{◌≡◌, ℕ, zero, suc, ◌<◌, ◌≤◌, List, [], ◌∷◌, ◌++◌, Bool, true, false, Some, None, length, map, refl, sym, ap, ◌∙◌, subst, arith}
use Rattle.std.specs.Prelude.{◌==◌, if◌then◌else◌, flat_map, filter_map}
use Rattle.std.specs.List.{AllByRecursion, cons_option}
use Rattle.std.proofs.lemmas.Bool.{eqb-true}
use Rattle.std.proofs.lemmas.List.Elements.{filter_map-append}
use Rattle.ts_packets.specs.Packets.{Piece, pieces, stretch, Carries}
use Rattle.ts_packets.specs.Bytes.{Packet, packet_on, packets_dense}
use Rattle.ts_packets.specs.Counting.{of_pid}
use Rattle.ts_packets.proofs.Carrying.{Carries-none, Carries-append}
use Rattle.ts_packets.proofs.Dense.{HaveBytes, Carries-stretch}
use Rattle.ts_packets.proofs.Stamps.{of_pid-append, one_pid}
use Rattle.guide_model.specs.declared.offset.Offset.{Offset}
use Rattle.time_tables.specs.Tdt.{tdt_section}
use Rattle.time_tables.proofs.Loops.{length-tot_section}
use Rattle.si_time.specs.Moments.{moment_bcd}
use Rattle.section_codec.specs.declared.table.NumberedBody.{NumberedBody}
use Rattle.section_codec.specs.declared.table.SubTable.{SubTable}
use Rattle.section_codec.specs.SubTables.{header_of}
use Rattle.section_codec.proofs.ReadBack.{length-section_bytes}
use Rattle.air_model.specs.Cycle.{cycle_of}
use Rattle.air_model.specs.Sections.{planned}
use Rattle.version_book.specs.Airings.{AiredTables, CycleForm, version_at}
use Rattle.si_lists.proofs.Lists.{all_append}
use Rattle.air_model.specs.Air.{Sent, sent_section, sections_of, table_sections, tdt, tot, times, before_tdt, behind_tdt, sections_once, weights_once, cycle_sections, sent_on}
use Rattle.air_model.proofs.Counted.{PidsFit}
use Rattle.air_model.proofs.Planned.{all_at}
use Rattle.air_model.specs.Making.{bytes_of, in_front, stretches, stretch_packets, each_dense, front_on, behind_on}

-- sections with a byte each
abbrev pub HaveSome : List Sent → Type 0
HaveSome ss = AllByRecursion (λ (s : Sent). 0 < length s.bytes) ss

-- the first stretch
pub first_stretch : (s : Sent) (ss : List Sent) → stretches (s ∷ ss) ≡ (s ∷ front_on s.pid ss) ∷ stretches (behind_on s.pid ss)
first_stretch s [] = refl
first_stretch s (t ∷ ss) = go (t.pid == s.pid) refl (first_stretch t ss)
  where
    go : (b : Bool) → (t.pid == s.pid) ≡ b → stretches (t ∷ ss) ≡ (t ∷ front_on t.pid ss) ∷ stretches (behind_on t.pid ss)
        → (if b then in_front s (stretches (t ∷ ss)) else (s ∷ []) ∷ stretches (t ∷ ss))
        ≡ (s ∷ (if b then t ∷ front_on s.pid ss else [])) ∷ stretches (if b then behind_on s.pid ss else t ∷ ss)
    go true e rec = ap (in_front s) rec ∙ ap (λ (n : ℕ). (s ∷ t ∷ front_on n ss) ∷ stretches (behind_on n ss)) (eqb-true t.pid s.pid e)
    go false e rec = refl

pub first_packets : (s : Sent) (ss : List Sent) → each_dense (s ∷ ss) ≡ packets_dense s.pid (s.bytes ∷ bytes_of (front_on s.pid ss)) ++ each_dense (behind_on s.pid ss)
first_packets s ss = ap (λ (parts : List (List Sent)). flat_map stretch_packets parts) (first_stretch s ss)

pub both_parts : (pid : ℕ) (ss : List Sent) → front_on pid ss ++ behind_on pid ss ≡ ss
both_parts pid [] = refl
both_parts pid (s ∷ ss) = go (s.pid == pid) (both_parts pid ss)
  where
    go : (b : Bool) → front_on pid ss ++ behind_on pid ss ≡ ss → (if b then s ∷ front_on pid ss else []) ++ (if b then behind_on pid ss else s ∷ ss) ≡ s ∷ ss
    go true e = ap (λ (l : List Sent). s ∷ l) e
    go false e = refl

pub fewer : (pid : ℕ) (ss : List Sent) → length (behind_on pid ss) ≤ length ss
fewer pid [] = omega arith
fewer pid (s ∷ ss) = go (s.pid == pid) (fewer pid ss)
  where
    go : (b : Bool) → length (behind_on pid ss) ≤ length ss → length (if b then behind_on pid ss else s ∷ ss) ≤ suc (length ss)
    go true e = omega arith
    go false e = omega arith

pub front_some : (pid : ℕ) (ss : List Sent) → HaveSome ss → HaveBytes (bytes_of (front_on pid ss))
front_some pid [] h = tt
front_some pid (s ∷ ss) h = go (s.pid == pid) (front_some pid ss h.1)
  where
    go : (b : Bool) → HaveBytes (bytes_of (front_on pid ss)) → HaveBytes (bytes_of (if b then s ∷ front_on pid ss else []))
    go true e = (h.0, e)
    go false e = tt

pub behind_all : (P : Sent → Type 0) (pid : ℕ) (ss : List Sent) → AllByRecursion P ss → AllByRecursion P (behind_on pid ss)
behind_all P pid [] h = h
behind_all P pid (s ∷ ss) h = go (s.pid == pid) (behind_all P pid ss h.1)
  where
    go : (b : Bool) → AllByRecursion P (behind_on pid ss) → AllByRecursion P (if b then behind_on pid ss else s ∷ ss)
    go true e = e
    go false e = h

-- the front has one PID
front_sections : (pid q : ℕ) (b : Bool) → (q == pid) ≡ b → (ss : List Sent) → filter_map (sent_on pid) (front_on q ss) ≡ (if b then bytes_of (front_on q ss) else [])
front_sections pid q true e [] = refl
front_sections pid q false e [] = refl
front_sections pid q b e (s ∷ ss) = go (s.pid == q) refl (front_sections pid q b e ss)
  where
    at : (d : Bool) → (q == pid) ≡ d → filter_map (sent_on pid) (front_on q ss) ≡ (if d then bytes_of (front_on q ss) else [])
        → cons_option (if q == pid then Some s.bytes else None) (filter_map (sent_on pid) (front_on q ss)) ≡ (if d then s.bytes ∷ bytes_of (front_on q ss) else [])
    at true g rec = ap (λ (d : Bool). cons_option (if d then Some s.bytes else None) (filter_map (sent_on pid) (front_on q ss))) g ∙ ap (λ (l : List (List ℕ)). s.bytes ∷ l) rec
    at false g rec = ap (λ (d : Bool). cons_option (if d then Some s.bytes else None) (filter_map (sent_on pid) (front_on q ss))) g ∙ rec

    none : (d : Bool) → filter_map (sent_on pid) [] ≡ (if d then bytes_of [] else [])
    none true = refl
    none false = refl

    go : (c : Bool) → (s.pid == q) ≡ c → filter_map (sent_on pid) (front_on q ss) ≡ (if b then bytes_of (front_on q ss) else [])
        → filter_map (sent_on pid) (if c then s ∷ front_on q ss else []) ≡ (if b then bytes_of (if c then s ∷ front_on q ss else []) else [])
    go true f rec =
        ap (λ (n : ℕ). cons_option (if n == pid then Some s.bytes else None) (filter_map (sent_on pid) (front_on q ss))) (eqb-true s.pid q f)
        ∙ at b e rec
    go false f rec = none b

-- on each PID the packets carry the sections of that PID, in their order; n bounds how many sections there are
dense_within : (n pid : ℕ) (ss : List Sent) → length ss ≤ n → HaveSome ss → Carries (of_pid pid (each_dense ss)) (filter_map (sent_on pid) ss)
dense_within n pid [] h all = Carries-none
dense_within zero pid (s ∷ ss) h all = absurd (omega arith)
dense_within (suc n) pid (s ∷ ss) h all =
    go (s.pid == pid) refl (dense_within n pid behind (omega (arith, fewer s.pid ss)) (behind_all (λ (t : Sent). 0 < length t.bytes) s.pid ss all.1))
  where
    front : List Sent
    front = front_on s.pid ss

    behind : List Sent
    behind = behind_on s.pid ss

    here : List (List ℕ)
    here = s.bytes ∷ bytes_of front

    whole : (b : Bool) → (s.pid == pid) ≡ b → filter_map (sent_on pid) (s ∷ front) ≡ (if b then here else [])
    whole true e = ap (λ (d : Bool). cons_option (if d then Some s.bytes else None) (filter_map (sent_on pid) front)) e ∙ ap (λ (l : List (List ℕ)). s.bytes ∷ l) (front_sections pid s.pid true e ss)
    whole false e = ap (λ (d : Bool). cons_option (if d then Some s.bytes else None) (filter_map (sent_on pid) front)) e ∙ front_sections pid s.pid false e ss

    at : (b : Bool) → Carries (of_pid pid (each_dense behind)) (filter_map (sent_on pid) behind)
        → Carries ((if b then pieces [] (stretch here) else []) ++ of_pid pid (each_dense behind)) ((if b then here else []) ++ filter_map (sent_on pid) behind)
    at true rec = Carries-append (pieces [] (stretch here)) (of_pid pid (each_dense behind)) here (filter_map (sent_on pid) behind) (Carries-stretch here (all.0, front_some s.pid ss all.1)) rec
    at false rec = rec

    go : (b : Bool) → (s.pid == pid) ≡ b → Carries (of_pid pid (each_dense behind)) (filter_map (sent_on pid) behind) → Carries (of_pid pid (each_dense (s ∷ ss))) (filter_map (sent_on pid) (s ∷ ss))
    go b e rec =
        let cut : of_pid pid (each_dense (s ∷ ss)) ≡ (if b then pieces [] (stretch here) else []) ++ of_pid pid (each_dense behind) =
        ap (of_pid pid) (first_packets s ss) ∙ of_pid-append pid (packets_dense s.pid here) (each_dense behind)
        ∙ ap (λ (x : List Piece). x ++ of_pid pid (each_dense behind)) (one_pid pid s.pid b e (pieces [] (stretch here))) in
        let on : filter_map (sent_on pid) (s ∷ ss) ≡ (if b then here else []) ++ filter_map (sent_on pid) behind =
        ap (λ (l : List Sent). filter_map (sent_on pid) (s ∷ l)) (sym (both_parts s.pid ss)) ∙ filter_map-append (sent_on pid) (s ∷ front) behind
        ∙ ap (λ (l : List (List ℕ)). l ++ filter_map (sent_on pid) behind) (whole b e) in
        subst (λ (x : List Piece). Carries x (filter_map (sent_on pid) (s ∷ ss))) (sym cut)
        (subst (λ (x : List (List ℕ)). Carries ((if b then pieces [] (stretch here) else []) ++ of_pid pid (each_dense behind)) x) (sym on) (at b rec))

pub Carries-each_dense : (pid : ℕ) (ss : List Sent) → HaveSome ss → Carries (of_pid pid (each_dense ss)) (filter_map (sent_on pid) ss)
Carries-each_dense pid ss all = dense_within (length ss) pid ss (omega arith) all

-- ---- the packets have the PIDs of the sections

pids_on : (pid : ℕ) (ps : List Piece) → pid < 8192 → PidsFit (map (packet_on pid) ps)
pids_on pid [] lt = tt
pids_on pid (p ∷ ps) lt = (lt, pids_on pid ps lt)

fit_within : (n : ℕ) (ss : List Sent) → length ss ≤ n → AllByRecursion (λ (s : Sent). s.pid < 8192) ss → PidsFit (each_dense ss)
fit_within n [] h fit = tt
fit_within zero (s ∷ ss) h fit = absurd (omega arith)
fit_within (suc n) (s ∷ ss) h fit =
    let here = s.bytes ∷ bytes_of (front_on s.pid ss) in
    let behind = behind_on s.pid ss in
    subst PidsFit (sym (first_packets s ss))
    (all_append (λ (p : Packet). p.pid < 8192) (packets_dense s.pid here) (each_dense behind) (pids_on s.pid (pieces [] (stretch here)) fit.0)
    (fit_within n behind (omega (arith, fewer s.pid ss)) (behind_all (λ (t : Sent). t.pid < 8192) s.pid ss fit.1)))

pub pids_fit : (ss : List Sent) → AllByRecursion (λ (s : Sent). s.pid < 8192) ss → PidsFit (each_dense ss)
pids_fit ss fit = fit_within (length ss) ss (omega arith) fit

-- ---- the sections of a cycle have bytes

pub eight : (moment : ℕ) → length (tdt_section moment) ≡ 8
unfolding moment_bcd
eight moment = refl

sections_some : (version : ℕ) (t : SubTable) (ss : List NumberedBody) → HaveSome (map (sent_section version t) ss)
sections_some version t [] = tt
sections_some version t (s ∷ ss) = (omega (arith, length-section_bytes (header_of version t s) s.body), sections_some version t ss)

tables_some : (airings : List AiredTables) (ts : List SubTable) → HaveSome (table_sections airings ts)
tables_some airings [] = tt
tables_some airings (t ∷ ts) =
    all_append (λ (s : Sent). 0 < length s.bytes) (sections_of (version_at t.key airings) t) (table_sections airings ts) (sections_some (version_at t.key airings) t t.sections) (tables_some airings ts)

tot_some : (moment : ℕ) (offsets : List Offset) → HaveSome (tot moment offsets)
tot_some moment [] = tt
tot_some moment (o ∷ offsets) = (omega (arith, length-tot_section moment (o ∷ offsets)), tt)

pub times_some : (form : CycleForm) (moment : ℕ) → HaveSome (times form moment)
times_some form moment = (omega (arith, eight moment), tot_some moment form.offsets)

pub once_some : (past : List AiredTables) (a : AiredTables) → HaveSome (sections_once past a)
once_some past a =
    let all = past ++ a ∷ [] in
    all_append (λ (s : Sent). 0 < length s.bytes) (table_sections all (before_tdt a.tables)) (times a.form a.moment ++ table_sections all (behind_tdt a.tables))
    (tables_some all (before_tdt a.tables))
    (all_append (λ (s : Sent). 0 < length s.bytes) (times a.form a.moment) (table_sections all (behind_tdt a.tables)) (times_some a.form a.moment) (tables_some all (behind_tdt a.tables)))

pub cycle_some : (past : List AiredTables) (a : AiredTables) → HaveSome (cycle_sections past a)
cycle_some past a = all_at (λ (s : Sent). 0 < length s.bytes) (sections_once past a) (cycle_of (planned (weights_once past a) a.form.quota)) (once_some past a)
