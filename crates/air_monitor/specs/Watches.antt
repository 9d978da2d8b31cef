-- A monitor that goes on.
use Rattle.std.proofs.Common.{ℕ, List, [], ◌++◌, refl, sym, ◌∙◌, subst, append-nil, append_assoc}
use Rattle.std.specs.Prelude.{Option}
use Rattle.std.proofs.KnownBytes.{Appends-nil, Appends-trans}
use Rattle.air_monitor.specs.Heard.{HasTaken, Watching, WatchedOn}

pub watched_at_once : {A : Type 0} (written : A → Option (List ℕ)) (is_same : A → A → Type 0) (at_once : (a : A) → is_same a a) (m : Watching A) → WatchedOn written is_same m m
watched_at_once written is_same at_once m = record {
  more = [];
  gave = Appends-nil (written m.air);
  same_air = at_once m.air;
  same_join = refl;
  taken = λ past has. subst (λ (p : List ℕ). HasTaken p m.part m.listener) (sym (append-nil past)) has;
}

pub watched_later : {A : Type 0} (written : A → Option (List ℕ)) (is_same : A → A → Type 0) (later : (a b c : A) → is_same a b → is_same b c → is_same a c) (m n o : Watching A)
    → WatchedOn written is_same m n → WatchedOn written is_same n o → WatchedOn written is_same m o
watched_later written is_same later m n o p q = record {
  more = p.more ++ q.more;
  gave = Appends-trans (written m.air) (written n.air) (written o.air) p.more q.more p.gave q.gave;
  same_air = later m.air n.air o.air p.same_air q.same_air;
  same_join = q.same_join ∙ p.same_join;
  taken = λ past has. subst (λ (l : List ℕ). HasTaken l o.part o.listener) (append_assoc past p.more q.more) (q.taken (past ++ p.more) (p.taken past has));
}
