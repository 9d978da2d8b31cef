-- An listener, one packet later.
use Rattle.std.proofs.Common.{◌≡◌, ℕ, ◌+◌, Bool, true, false, List, [], ◌∷◌, ◌++◌, length, drop, sym, ◌∙◌, subst, arith, length-append}
use Rattle.guide_receiver.specs.Heard.{Hearing}
use Rattle.air_monitor.specs.declared.done_line.DoneLine.{DoneLine}
use Rattle.air_monitor.specs.Heard.{AreInSync, Hears, HearsBy, Listening}
use Rattle.air_monitor.proofs.Lines.{deaf_more, sync_before}

-- one that memory was wanting for hears nothing more
pub deaf_stays : (past : List (List ℕ)) (p : List ℕ) (listener : Listening) → listener.wanting ≡ true → Hears past listener → Hears (past ++ p ∷ []) listener
deaf_stays past p listener is h = record {
  number_is = λ not. (let e : true ≡ false = sym is ∙ not in cc);
  heard = λ sync. subst (λ w. HearsBy w listener.join (drop listener.join (past ++ p ∷ [])) listener.receiver listener.dones) (sym is) (deaf_more listener.wanting listener.join past p listener.receiver listener.dones h.heard sync);
}

-- it becomes deaf before a packet
pub deaf_now : (past : List (List ℕ)) (p : List ℕ) (receiver : Hearing) (dones : List DoneLine) (join number : ℕ) (wanting : Bool)
    → Hears past (record { receiver = receiver; dones = dones; join = join; number = number; wanting = wanting })
    → Hears (past ++ p ∷ []) (record { receiver = receiver; dones = dones; join = join; number = number; wanting = true })
deaf_now past p receiver dones join number wanting h = record {
  number_is = λ not. cc;
  heard = λ sync. deaf_more wanting join past p receiver dones h.heard sync;
}

-- it becomes deaf within a packet
pub deaf_within : (past : List (List ℕ)) (p : List ℕ) (receiver heard : Hearing) (dones shown : List DoneLine) (join number : ℕ) (wanting : Bool) → wanting ≡ false
    → Hears past (record { receiver = receiver; dones = dones; join = join; number = number; wanting = wanting })
    → (number ≡ length past → HearsBy false join (drop join past) receiver dones → HearsBy true join (drop join (past ++ p ∷ [])) heard shown)
    → Hears (past ++ p ∷ []) (record { receiver = heard; dones = shown; join = join; number = number; wanting = true })
deaf_within past p receiver heard dones shown join number wanting is h then = record {
  number_is = λ not. cc;
  heard = λ sync. then (h.number_is is) (subst (λ w. HearsBy w join (drop join past) receiver dones) is (h.heard (sync_before join past p sync)));
}

-- it heard the packet
pub hears_on : (past : List (List ℕ)) (p : List ℕ) (receiver heard : Hearing) (dones shown : List DoneLine) (join number : ℕ) (wanting : Bool) → wanting ≡ false
    → Hears past (record { receiver = receiver; dones = dones; join = join; number = number; wanting = wanting })
    → (number ≡ length past → HearsBy false join (drop join past) receiver dones → AreInSync (drop join (past ++ p ∷ [])) → HearsBy false join (drop join (past ++ p ∷ [])) heard shown)
    → Hears (past ++ p ∷ []) (record { receiver = heard; dones = shown; join = join; number = number + 1; wanting = wanting })
hears_on past p receiver heard dones shown join number wanting is h then = record {
  number_is = λ not. omega (arith, h.number_is is, length-append past (p ∷ []));
  heard = λ sync. subst (λ w. HearsBy w join (drop join (past ++ p ∷ [])) heard shown) (sym is)
      (then (h.number_is is) (subst (λ w. HearsBy w join (drop join past) receiver dones) is (h.heard (sync_before join past p sync))) sync);
}
