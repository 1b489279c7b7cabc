-- Worked instances: what loads are, and who is chosen, by computation. A set of the parties 1 to 4 is 15.
use Rattle.std.proofs.Common.{◌≡◌, refl, [], ◌∷◌, take}
use Rattle.share_spec.specs.Sets.{has, members, members_to}
use Rattle.proto_names.specs.Groups.{with_party, without_party}
use Rattle.proto_names.specs.Instances.{lacks, fresh, with_fresh}
use Rattle.proto_names.specs.declared.signature.Signature.TheVariants.{Pk}
use Rattle.proto_names.specs.declared.instance.Instance.{Instance}
use Rattle.proto_names.specs.declared.instance.Stage.{Stage}
use Rattle.proto_names.specs.declared.instance.Stage.TheVariants.{Opened, Complete, Void}
use Rattle.participants.specs.Loads.{load, loads_of, one_more, raised, earlier, first_from, chosen_from, chosen}
use Rattle.participants.specs.Live.{live_ones}

-- without any load the two least of the parties 1 to 4 take part
idle : chosen 2 [] 15 ≡ 3
unfolding chosen chosen_from first_from earlier members members_to has with_party without_party
idle = refl

-- where the parties 1 and 2 have a load of one each, it is 3 and 4
others_first : chosen 2 (1 ∷ 1 ∷ 0 ∷ 0 ∷ []) 15 ≡ 12
unfolding chosen chosen_from first_from earlier members members_to has with_party without_party
others_first = refl

-- the one that has a load is left
one_is_left : chosen 2 (1 ∷ 0 ∷ 0 ∷ []) 7 ≡ 6
unfolding chosen chosen_from first_from earlier members members_to has with_party without_party
one_is_left = refl

-- of two that have the same load the lower number comes first, and the higher load last
tie : chosen 1 (2 ∷ 1 ∷ 1 ∷ []) 7 ≡ 2
unfolding chosen chosen_from first_from earlier members members_to has with_party without_party
tie = refl

-- then the other, and then the busiest
tie_then_other : chosen 2 (2 ∷ 1 ∷ 1 ∷ []) 7 ≡ 6
unfolding chosen chosen_from first_from earlier members members_to has with_party without_party
tie_then_other = refl

-- a higher number comes first where its load is lower
by_load : chosen 1 (3 ∷ 2 ∷ 1 ∷ []) 7 ≡ 4
unfolding chosen chosen_from first_from earlier members members_to has with_party without_party
by_load = refl

-- all take part where the set has fewer
fewer : chosen 3 [] 5 ≡ 5
unfolding chosen chosen_from first_from earlier members members_to has with_party without_party
fewer = refl

-- nobody who isn't of the set
members_alone : chosen 1 (1 ∷ 0 ∷ 1 ∷ []) 5 ≡ 1
unfolding chosen chosen_from first_from earlier members members_to has with_party without_party
members_alone = refl

-- party 32 has its place
last_party : chosen 1 (1 ∷ []) 2147483649 ≡ 2147483648
unfolding chosen chosen_from first_from earlier members members_to has with_party without_party
last_party = refl

-- ---- loads

-- an instance of the parties 1 to 3, of whom party 2 has sent
abbrev one_sent : Stage → Instance
one_sent stage =
    record {
      id = 1;
      signature = Pk;
      set = record { bits = 7 };
      attempt = 1;
      sent = record { bits = 2 };
      stage = stage;
      round1 = 0;
      group = 0;
    }

-- it waits for the other two while it is opened, and then for nobody
waits : take 4 (loads_of (one_sent Opened ∷ [])) ≡ 1 ∷ 0 ∷ 1 ∷ 0 ∷ []
unfolding loads_of load lacks has
waits = refl

is_complete : take 4 (loads_of (one_sent Complete ∷ [])) ≡ 0 ∷ 0 ∷ 0 ∷ 0 ∷ []
unfolding loads_of load lacks has
is_complete = refl

is_void : take 4 (loads_of (one_sent (Void 3) ∷ [])) ≡ 0 ∷ 0 ∷ 0 ∷ 0 ∷ []
unfolding loads_of load lacks has
is_void = refl

-- all but void ones are live
alive : live_ones (one_sent (Void 3) ∷ one_sent Opened ∷ one_sent Complete ∷ []) ≡ one_sent Opened ∷ one_sent Complete ∷ []
unfolding live_ones
alive = refl

-- a new one raises the loads of its parties
issued : take 4 (loads_of (with_fresh (one_sent Opened ∷ []) Pk (record { bits = 3 }) 0 0)) ≡ 2 ∷ 1 ∷ 1 ∷ 0 ∷ []
unfolding loads_of load lacks has fresh
issued = refl

by_one : take 4 (raised 3 (1 ∷ 0 ∷ 1 ∷ [])) ≡ 2 ∷ 1 ∷ 1 ∷ 0 ∷ []
unfolding raised one_more has
by_one = refl

-- so the next one is for others
next_ones : chosen 2 (loads_of (with_fresh [] Pk (record { bits = 3 }) 0 0)) 15 ≡ 12
unfolding chosen chosen_from first_from earlier members members_to has with_party without_party loads_of load lacks fresh
next_ones = refl
