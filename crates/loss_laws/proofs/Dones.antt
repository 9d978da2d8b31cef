-- Each completion that a packet of a thinned air shows is of one airing.
use Rattle.std.proofs.Common.{◌≡◌, ℕ, List, [], ◌∷◌, ◌++◌, refl, map, subst}
use Rattle.std.specs.List.{AllByRecursion}
use Rattle.sub_collect.specs.Marks.{completions_over, dones_over}
use Rattle.sub_collect.specs.declared.completed.Completed.{Completed}
use Rattle.guide_receiver.specs.Dones.{done_key}
use Rattle.strict_receiver.specs.Strict.{taken_by, taken_of}
use Rattle.strict_receiver.proofs.Shown.{each_shown}
use Rattle.air_model.specs.Air.{Aired}
use Rattle.loss_laws.specs.Thinned.{Fate, IsAiredAmong, IsDoneAmong}
use Rattle.loss_laws.specs.ThinnedAirLaws.{ThinnedDonesAreAired}
use Rattle.loss_laws.proofs.Coherent.{thinned_coherent}

all_done : (fates : List Fate) (xs : List Aired) (ds : List Completed) → AllByRecursion (IsAiredAmong fates xs) ds → AllByRecursion (IsDoneAmong fates xs) (map done_key ds)
all_done fates xs [] all = tt
all_done fates xs (d ∷ ds) all = (record { completed = d; is = refl; aired = all.0 }, all_done fates xs ds all.1)

pub thinned_dones : ThinnedDonesAreAired
thinned_dones airings xs is can fates thin past rest packet cut =
    all_done fates xs (dones_over (taken_of past) (taken_by past packet))
    (each_shown (IsAiredAmong fates xs) past rest packet
    (λ k. subst (λ (l : List (List ℕ)). AllByRecursion (IsAiredAmong fates xs) (completions_over k (taken_of l))) cut (thinned_coherent airings xs is can fates thin k)))
