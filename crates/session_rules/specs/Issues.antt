-- Which instances are issued, and when.
use Rattle.std.specs.Prelude.{ℕ, zero, suc, ◌+◌, Bool, not, nat_eq, nat_le, ◌&&◌, cond, if◌then◌else◌, List, [], ◌∷◌, ◌++◌, length, map, Option, Some, None}
use Rattle.std.specs.List.{range_with_len, find, list_any}
use Rattle.std.specs.Option.{option_map, option_or, option_and_then}
use Rattle.share_spec.specs.Sets.{count}
use Rattle.proto_names.specs.Names.{same}
use Rattle.proto_names.specs.Instances.{is_done, with_fresh, after_void}
use Rattle.proto_names.specs.Groups.{first_outside}
use Rattle.proto_names.specs.declared.signature.Signature.{Signature}
use Rattle.proto_names.specs.declared.signature.Signature.TheVariants.{Pk, Rlk1, Rlk2, Rot, Dec}
use Rattle.proto_names.specs.declared.sets.PartySet.{PartySet}
use Rattle.proto_names.specs.declared.instance.Instance.{Instance}
use Rattle.participants.specs.Loads.{loads_of, chosen}
use Rattle.session_rules.specs.declared.moves.Move.{Move}
use Rattle.session_rules.specs.declared.moves.Move.TheVariants.{GiveUp, Issue}
use Rattle.session_rules.specs.declared.fixed.Plan.{Plan}
use Rattle.session_rules.specs.declared.fixed.Fixed.{Fixed}
use Rattle.session_rules.specs.States.{State, threshold_at, group_now, is_admitted, is_evaluated, circuit, has_live, has_done}

-- ---- what is needed

-- whether a circuit is admitted and has an input; a full product
abbrev pub wants_key : Plan → Bool
wants_key plan = is_admitted plan && not (nat_eq (length plan.owners) 0)

abbrev pub wants_relin : Plan → Bool
wants_relin plan = is_admitted plan && plan.product

-- the keys that admitted circuits need, in the order in which they are issued; which rotations those
-- are stands in the fixed data
unfoldable pub keys : Fixed → List Signature
keys f =
    cond (list_any wants_key f.plans) (Pk ∷ []) []
    ++ cond (list_any wants_relin f.plans) (Rlk1 ∷ Rlk2 ∷ []) []
    ++ map Rot f.turns

-- ---- when it may be issued

-- whether at least T parties are present
unfoldable pub enough : Fixed → State → Bool
enough f s = nat_le (threshold_at f (group_now s)) (count s.present)

-- a second round wants a complete first one; all else wants T parties
unfoldable pub condition : Fixed → State → Signature → Bool
condition f s σ = cond (same σ Rlk2) (has_done Rlk1 s.instances) (enough f s)

-- no instance of a signature is opened or complete, and its condition stands
unfoldable pub may_issue : Fixed → State → Signature → Bool
may_issue f s σ = not (has_live σ s.instances) && condition f s σ

-- the decryption of an evaluated circuit is needed
unfoldable pub may_decrypt : Fixed → State → ℕ → Bool
may_decrypt f s c = is_evaluated (circuit s.circuits c) && may_issue f s (Dec c)

unfoldable pub next_decryption : Fixed → State → Option Signature
next_decryption f s = option_map Dec (find (may_decrypt f s) (range_with_len 0 (length s.circuits)))

-- the first signature that is needed and may be issued: the keys, then decryptions by rising circuit
unfoldable pub next_signature : Fixed → State → Option Signature
next_signature f s = option_or (find (may_issue f s) (keys f)) (next_decryption f s)

-- ---- one step

-- rule 1: a complete first round without an opened or complete second one is given up by the least of its parties that is
-- absent
unfoldable pub outdated : State → Instance → Option Move
outdated s i = option_map (GiveUp i.id) (first_outside i.set.bits s.present)

unfoldable pub rule_1 : State → Option Move
rule_1 s = if has_live Rlk2 s.instances then None else option_and_then (outdated s) (find (is_done Rlk1) s.instances)

-- rule 2: the next signature is issued. A second round has the set of its first, all else the first T parties that
-- are present: by rising load, and then by rising number. The load of a party is the number of opened instances that
-- wait for its share, at this move: so instances that one call issues count for the next ones
abbrev pub second_round : Instance → Move
second_round i = Issue Rlk2 i.set i.id

unfoldable pub chosen_present : Fixed → State → PartySet
chosen_present f s = record { bits = chosen (threshold_at f (group_now s)) (loads_of s.instances) s.present }

unfoldable pub issued_as : Fixed → State → Signature → Option Move
issued_as f s σ =
    if same σ Rlk2 then option_map second_round (find (is_done Rlk1) s.instances)
    else Some (Issue σ (chosen_present f s) 0)

unfoldable pub rule_2 : Fixed → State → Option Move
rule_2 f s = option_and_then (issued_as f s) (next_signature f s)

-- rule 1 is tried first
unfoldable pub next_move : Fixed → State → Option Move
next_move f s = option_or (rule_1 s) (rule_2 f s)

-- ---- what a step does; an instance is issued for the group that holds the secret now

unfoldable pub instances_after : List Instance → Move → List Instance
instances_after is (GiveUp id by) = after_void id by is
instances_after is (Issue σ set round1) = with_fresh is σ set round1 0

unfoldable pub moved : State → Move → State
moved s m = record s { instances = instances_after s.instances m }

-- ---- all steps

-- step after step, as long as there is one, and at most n of them: what is done, and the state then
unfoldable pub moves_in : ℕ → Fixed → State → List Move
moves_in zero f s = []
moves_in (suc n) f s = elim (next_move f s) [
  | None ↦ []
  | Some m ↦ m ∷ moves_in n f (moved s m)
]

unfoldable pub issued_in : ℕ → Fixed → State → State
issued_in zero f s = s
issued_in (suc n) f s = elim (next_move f s) [
  | None ↦ s
  | Some m ↦ issued_in n f (moved s m)
]

-- as many steps as there can be, and more: one for each signature that is needed, and one that gives a
-- first round up
unfoldable pub most_moves : Fixed → ℕ
most_moves f = length (keys f) + length f.plans + 2

-- both rules, until neither applies
unfoldable pub moves : Fixed → State → List Move
moves f s = moves_in (most_moves f) f s

unfoldable pub issue : Fixed → State → State
issue f s = issued_in (most_moves f) f s
