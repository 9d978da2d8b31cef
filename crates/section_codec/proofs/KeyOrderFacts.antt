-- The test of equal keys, and the order of keys.
use Rattle.std.proofs.Common.{◌≡◌, ◌≢◌, Bool, true, false, ◌&&◌, ◌==◌, refl, sym, ap, ◌∙◌, eq-eqb, eqb-true}
use Rattle.std.specs.declared.cmp.Ordering.{Ordering}
use Rattle.std.specs.declared.cmp.Ordering.TheVariants.{Less, Equal, Greater}
use Rattle.std.specs.Ordering.{is_eq, nat_cmp, ordering_then}
use Rattle.std.specs.Cmp.{unsigned_ties}
use Rattle.std.proofs.lemmas.Bool.{and_parts, and_from}
use Rattle.section_codec.specs.declared.table.Key.{Key}
use Rattle.section_codec.specs.KeyOrder.{is_key, key_cmp}

same_key : (a b : Key) → a.pid ≡ b.pid → a.table ≡ b.table → a.ext ≡ b.ext → a.stream ≡ b.stream → a.network ≡ b.network → a ≡ b
same_key a b p t e s n = λ i. record { pid = p i; table = t i; ext = e i; stream = s i; network = n i }

-- the test of equal keys tells equal keys
pub is_key-same : (a b : Key) → is_key a b ≡ true → a ≡ b
is_key-same a b h =
    let one = and_parts (a.pid == b.pid && a.table == b.table && a.ext == b.ext && a.stream == b.stream) (a.network == b.network) h in
    let two = and_parts (a.pid == b.pid && a.table == b.table && a.ext == b.ext) (a.stream == b.stream) one.0 in
    let three = and_parts (a.pid == b.pid && a.table == b.table) (a.ext == b.ext) two.0 in
    let four = and_parts (a.pid == b.pid) (a.table == b.table) three.0 in
    same_key a b (eqb-true a.pid b.pid four.0) (eqb-true a.table b.table four.1) (eqb-true a.ext b.ext three.1) (eqb-true a.stream b.stream two.1) (eqb-true a.network b.network one.1)

pub is_key-itself : (k : Key) → is_key k k ≡ true
is_key-itself k =
    and_from (k.pid == k.pid && k.table == k.table && k.ext == k.ext && k.stream == k.stream) (k.network == k.network)
    (and_from (k.pid == k.pid && k.table == k.table && k.ext == k.ext) (k.stream == k.stream)
    (and_from (k.pid == k.pid && k.table == k.table) (k.ext == k.ext)
    (and_from (k.pid == k.pid) (k.table == k.table) (eq-eqb k.pid k.pid refl) (eq-eqb k.table k.table refl))
    (eq-eqb k.ext k.ext refl))
    (eq-eqb k.stream k.stream refl))
    (eq-eqb k.network k.network refl)

pub is_key-apart : (a b : Key) → a ≢ b → is_key a b ≡ false
is_key-apart a b other = go (is_key a b) refl
  where
    go : (x : Bool) → is_key a b ≡ x → is_key a b ≡ false
    go true e = absurd (other (is_key-same a b e))
    go false e = e

-- the order of keys answers Equal for equal keys alone
then_is_eq : (o p : Ordering) → is_eq (ordering_then o p) ≡ (is_eq o && is_eq p)
then_is_eq Less p = refl
then_is_eq Equal p = refl
then_is_eq Greater p = refl

and_assoc : (a b c : Bool) → ((a && b) && c) ≡ (a && (b && c))
and_assoc true b c = refl
and_assoc false b c = refl

five : (a b c d e : Bool) → (a && b && c && d && e) ≡ (a && (b && (c && (d && e))))
five a b c d e =
    and_assoc (a && b && c) d e ∙ and_assoc (a && b) c (d && e) ∙ and_assoc a b (c && (d && e))

pub key_ties : (a b : Key) → is_key a b ≡ is_eq (key_cmp a b)
key_ties a b =
    let p = nat_cmp a.pid b.pid in let t = nat_cmp a.table b.table in let x = nat_cmp a.ext b.ext in let s = nat_cmp a.stream b.stream in let n = nat_cmp a.network b.network in
    five (a.pid == b.pid) (a.table == b.table) (a.ext == b.ext) (a.stream == b.stream) (a.network == b.network)
    ∙ ap (λ (v : Bool). v && (a.table == b.table && (a.ext == b.ext && (a.stream == b.stream && a.network == b.network)))) (unsigned_ties a.pid b.pid)
    ∙ ap (λ (v : Bool). is_eq p && (v && (a.ext == b.ext && (a.stream == b.stream && a.network == b.network)))) (unsigned_ties a.table b.table)
    ∙ ap (λ (v : Bool). is_eq p && (is_eq t && (v && (a.stream == b.stream && a.network == b.network)))) (unsigned_ties a.ext b.ext)
    ∙ ap (λ (v : Bool). is_eq p && (is_eq t && (is_eq x && (v && a.network == b.network)))) (unsigned_ties a.stream b.stream)
    ∙ ap (λ (v : Bool). is_eq p && (is_eq t && (is_eq x && (is_eq s && v)))) (unsigned_ties a.network b.network)
    ∙ sym (then_is_eq p (ordering_then t (ordering_then x (ordering_then s n)))
    ∙ ap (λ (v : Bool). is_eq p && v) (then_is_eq t (ordering_then x (ordering_then s n)))
    ∙ ap (λ (v : Bool). is_eq p && (is_eq t && v)) (then_is_eq x (ordering_then s n))
    ∙ ap (λ (v : Bool). is_eq p && (is_eq t && (is_eq x && v))) (then_is_eq s n))
