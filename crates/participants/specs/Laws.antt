-- What is true of those who are chosen, and of loads.
use Rattle.std.specs.Prelude.{◌≡◌, ℕ, ◌^◌, ◌<◌, ◌≤◌, ◌⊎◌, true, false, List, length, All}
use Rattle.share_spec.specs.Sets.{has, count}
use Rattle.proto_names.specs.Instances.{with_fresh}
use Rattle.proto_names.specs.declared.signature.Signature.{Signature}
use Rattle.proto_names.specs.declared.sets.PartySet.{PartySet}
use Rattle.proto_names.specs.declared.instance.Instance.{Instance}
use Rattle.participants.specs.Loads.{load_in, loads_of, raised, chosen}

-- a party comes before another: its load is lower, or the same and its number is lower
abbrev pub ComesBefore : List ℕ → ℕ → ℕ → Type 0
ComesBefore loads p q = (load_in loads p < load_in loads q) ⊎ ((load_in loads p ≡ load_in loads q) × (p < q))

-- who is chosen is a member, and comes before each member who isn't
abbrev pub ChosenAreMembers : Type 0
ChosenAreMembers =
    (k : ℕ) (loads : List ℕ) (set p : ℕ)
    → has (chosen k loads set) p ≡ true → has set p ≡ true

abbrev pub ChosenComeFirst : Type 0
ChosenComeFirst =
    (k : ℕ) (loads : List ℕ) (set p q : ℕ)
    → has (chosen k loads set) p ≡ true → has set q ≡ true → has (chosen k loads set) q ≡ false
    → ComesBefore loads p q

-- they are k, or all where the set has fewer
abbrev pub ChosenAreMany : Type 0
ChosenAreMany = (k : ℕ) (loads : List ℕ) (set : ℕ) → k ≤ count set → count (chosen k loads set) ≡ k

abbrev pub AllAreChosen : Type 0
AllAreChosen =
    (k : ℕ) (loads : List ℕ) (set p : ℕ)
    → count set ≤ k → has set p ≡ true → has (chosen k loads set) p ≡ true

-- they are some of the parties 1 to 32
abbrev pub ChosenAreParties : Type 0
ChosenAreParties = (k : ℕ) (loads : List ℕ) (set : ℕ) → chosen k loads set < 2 ^ 32

-- a new instance raises the load of each of its parties by one, and no other's
abbrev pub LoadsRise : Type 0
LoadsRise =
    (is : List Instance) (σ : Signature) (set : PartySet) (round1 group : ℕ)
    → loads_of (with_fresh is σ set round1 group) ≡ raised set.bits (loads_of is)

-- no load is above the number of instances, nor above what is no less than it
abbrev pub IsAtMost : ℕ → ℕ → Type 0
IsAtMost most load = load ≤ most

abbrev pub LoadsAreFew : Type 0
LoadsAreFew = (is : List Instance) (most : ℕ) → length is ≤ most → All (IsAtMost most) (loads_of is)
