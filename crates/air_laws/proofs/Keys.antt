-- The sections of one key that count come from its PID.
use Rattle.std.proofs.Common.{◌≡◌, ℕ, List, [], ◌∷◌, Bool, true, false, ◌==◌, ◌&&◌, Option, Some, None, refl, sym, ap, ◌∙◌, map, eq-eqb, eqb-true}
use Rattle.std.specs.Prelude.{if◌then◌else◌, cond, filter_map, option_map, Result, Ok, Err}
use Rattle.std.specs.List.{cons_option}
use Rattle.section_codec.specs.declared.section.Section.{Section}
use Rattle.section_codec.specs.declared.section.Section.TheVariants.{Long, Short}
use Rattle.section_codec.specs.declared.section.BadSection.{BadSection}
use Rattle.section_codec.specs.declared.table.Key.{Key}
use Rattle.section_codec.specs.Keys.{key_in}
use Rattle.section_codec.specs.Section.{section_in}
use Rattle.section_codec.proofs.KeyFacts.{IsKeyOf-key_in}
use Rattle.section_codec.specs.KeyOrder.{is_key}
use Rattle.section_codec.proofs.KeyOrderFacts.{is_key-same}
use Rattle.ts_demux.specs.declared.section.RawSection.{RawSection}
use Rattle.ts_demux.specs.Sections.{sections_on, on_pid, heard_all, bytes_on}
use Rattle.ts_demux.proofs.Adding.{order_kept}
use Rattle.sub_collect.specs.Runs.{Counted, counted}
use Rattle.sub_collect.specs.Completions.{of_key}
use Rattle.section_codec.specs.Tables.{is_counted}
use Rattle.guide_receiver.specs.Counting.{is_body_of_table, counted_by, counted_in, counted_among}
use Rattle.guide_receiver.specs.Dones.{counted_heard}
use Rattle.air_model.specs.Air.{Sent, sent_on}
use Rattle.air_laws.specs.Counting.{raw_of}

-- what bytes on a PID count for
abbrev pub count_on : ℕ → List ℕ → Option Counted
count_on pid bytes = counted_in (on_pid pid bytes)

-- a section that counts has the PID that it was heard on
counted_pid : (pid : ℕ) (r : Result Section BadSection) (c : Counted) → counted_by pid r ≡ Some c → c.key.pid ≡ pid
counted_pid pid (Err bad) c e = cc
counted_pid pid (Ok (Short table body)) c e = cc
counted_pid pid (Ok (Long h body)) c e = go (h.current && is_counted pid h.table && is_body_of_table h body) (key_in pid h body) refl e
  where
    go : (b : Bool) (o : Option Key) → key_in pid h body ≡ o → (if b then option_map (λ (k : Key). counted k h body) o else None) ≡ Some c → c.key.pid ≡ pid
    go true None f e = cc
    go false None f e = cc
    go false (Some q) f e = cc
    go true (Some q) f e =
        let same : counted q h body ≡ c = cc in
        ap (λ (x : Counted). x.key.pid) (sym same) ∙ (IsKeyOf-key_in pid h body q f).on_pid

-- so one heard on another PID has another key
elsewhere : (k : Key) (r : RawSection) (o : Option Counted) → counted_in r ≡ o → (r.pid == k.pid) ≡ false → (rest : List Counted) → of_key k (cons_option o rest) ≡ of_key k rest
elsewhere k r None e other rest = refl
elsewhere k r (Some c) e other rest = go (is_key c.key k) refl
  where
    go : (b : Bool) → is_key c.key k ≡ b → cond (is_key c.key k) (c ∷ of_key k rest) (of_key k rest) ≡ of_key k rest
    go false f = ap (λ (b : Bool). cond b (c ∷ of_key k rest) (of_key k rest)) f
    go true f =
        let same : r.pid ≡ k.pid = sym (counted_pid r.pid (section_in r.bytes) c e) ∙ ap (λ (q : Key). q.pid) (is_key-same c.key k f) in
        let none : true ≡ false = sym (eq-eqb r.pid k.pid same) ∙ other in
        absurd (let z : Prim.⊥ = cc in z)

-- the sections of a key that count are those heard on its PID
pub from_pid : (k : Key) (rs : List RawSection) → of_key k (counted_among rs) ≡ of_key k (filter_map (count_on k.pid) (filter_map (bytes_on k.pid) rs))
from_pid k [] = refl
from_pid k (r ∷ rs) = go (r.pid == k.pid) refl (from_pid k rs)
  where
    onto : (o : Option Counted) (a b : List Counted) → of_key k a ≡ of_key k b → of_key k (cons_option o a) ≡ of_key k (cons_option o b)
    onto None a b e = e
    onto (Some c) a b e = ap (λ (l : List Counted). cond (is_key c.key k) (c ∷ l) l) e

    go : (b : Bool) → (r.pid == k.pid) ≡ b → of_key k (counted_among rs) ≡ of_key k (filter_map (count_on k.pid) (filter_map (bytes_on k.pid) rs))
        → of_key k (cons_option (counted_in r) (counted_among rs)) ≡ of_key k (filter_map (count_on k.pid) (cons_option (if r.pid == k.pid then Some r.bytes else None) (filter_map (bytes_on k.pid) rs)))
    go true e rec =
        onto (counted_in r) (counted_among rs) (filter_map (count_on k.pid) (filter_map (bytes_on k.pid) rs)) rec
        ∙ ap (λ (n : ℕ). of_key k (cons_option (counted_in (on_pid n r.bytes)) (filter_map (count_on k.pid) (filter_map (bytes_on k.pid) rs)))) (eqb-true r.pid k.pid e)
        ∙ ap (λ (b : Bool). of_key k (filter_map (count_on k.pid) (cons_option (if b then Some r.bytes else None) (filter_map (bytes_on k.pid) rs)))) (sym e)
    go false e rec =
        elsewhere k r (counted_in r) refl e (counted_among rs) ∙ rec
        ∙ ap (λ (b : Bool). of_key k (filter_map (count_on k.pid) (cons_option (if b then Some r.bytes else None) (filter_map (bytes_on k.pid) rs)))) (sym e)

-- what is heard on a PID of what is sent
pub raw-on : (pid : ℕ) (ss : List Sent) → filter_map (bytes_on pid) (map raw_of ss) ≡ filter_map (sent_on pid) ss
raw-on pid [] = refl
raw-on pid (s ∷ ss) = ap (λ (l : List (List ℕ)). cons_option (sent_on pid s) l) (raw-on pid ss)

-- where on a PID just these sections are heard, the sections of a key count as they were sent
pub key_counted : (packets : List (List ℕ)) (ss : List Sent) (k : Key) → sections_on k.pid packets ≡ filter_map (sent_on k.pid) ss
    → of_key k (counted_heard packets) ≡ of_key k (counted_among (map raw_of ss))
key_counted packets ss k heard =
    from_pid k (heard_all [] packets)
    ∙ ap (λ (l : List (List ℕ)). of_key k (filter_map (count_on k.pid) l)) (order_kept packets k.pid ∙ heard ∙ sym (raw-on k.pid ss))
    ∙ sym (from_pid k (map raw_of ss))
