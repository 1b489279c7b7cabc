-- What the rules of issue look at: no rule looks at inputs, and most at less than all the rest.
use Rattle.std.proofs.Common.{◌≡◌, ℕ, Bool, ◌&&◌, List, [], ◌∷◌, find, refl}
use Rattle.proto_names.specs.declared.signature.Signature.{Signature}
use Rattle.proto_names.specs.declared.signature.Signature.TheVariants.{Dec}
use Rattle.proto_names.specs.declared.instance.Instance.{Instance}
use Rattle.session_rules.specs.declared.fixed.Fixed.{Fixed}
use Rattle.session_rules.specs.declared.state.CircuitState.{CircuitState}
use Rattle.session_rules.specs.States.{State, seen, circuit, is_evaluated}
use Rattle.session_rules.specs.Steps.{join, deliver, input, finish}
use Rattle.session_rules.specs.Issues.{enough, condition, may_issue, may_decrypt, next_decryption, next_signature, outdated, rule_1, chosen_present, issued_as, rule_2, next_move}

pub enough_seen : (f : Fixed) (p : ℕ) (is : List Instance) → enough f (seen p is [] []) ≡ enough f (seen p [] [] [])
unfolding enough
enough_seen f p is = refl

pub may_seen : (f : Fixed) (p : ℕ) (is : List Instance) (cs : List CircuitState) (σ : Signature) → may_issue f (seen p is [] cs) σ ≡ may_issue f (seen p is [] []) σ
unfolding may_issue condition enough
may_seen f p is cs σ = refl

pub decrypt_seen : (f : Fixed) (p : ℕ) (is : List Instance) (cs : List CircuitState) (c : ℕ) → may_decrypt f (seen p is [] cs) c ≡ (is_evaluated (circuit cs c) && may_issue f (seen p is [] []) (Dec c))
unfolding may_decrypt may_issue condition enough
decrypt_seen f p is cs c = refl

pub keys_seen : (f : Fixed) (p : ℕ) (is : List Instance) (cs : List CircuitState) (σs : List Signature) → find (may_issue f (seen p is [] cs)) σs ≡ find (may_issue f (seen p is [] [])) σs
keys_seen f p is cs [] = refl
keys_seen f p is cs (σ ∷ σs) = rw (may_seen f p is cs σ, keys_seen f p is cs σs) refl

pub outdated_seen : (p : ℕ) (is : List Instance) (i : Instance) → outdated (seen p is [] []) i ≡ outdated (seen p [] [] []) i
unfolding outdated
outdated_seen p is i = refl

pub chosen_seen : (f : Fixed) (p : ℕ) (is : List Instance) (cs : List CircuitState) → chosen_present f (seen p is [] cs) ≡ chosen_present f (seen p is [] [])
unfolding chosen_present
chosen_seen f p is cs = refl

pub issued_seen : (f : Fixed) (p : ℕ) (is : List Instance) (cs : List CircuitState) (σ : Signature) → issued_as f (seen p is [] cs) σ ≡ issued_as f (seen p is [] []) σ
unfolding issued_as chosen_present
issued_seen f p is cs σ = refl

pub first_seen : (p : ℕ) (is : List Instance) (cs : List CircuitState) → rule_1 (seen p is [] cs) ≡ rule_1 (seen p is [] [])
unfolding rule_1 outdated
first_seen p is cs = refl

pub ruleset looks = (enough_seen, may_seen, keys_seen, outdated_seen, chosen_seen, issued_seen, first_seen)

-- and all of it together
pub next_seen : (f : Fixed) (p : ℕ) (is : List Instance) (given : List (List Bool)) (cs : List CircuitState) → next_move f (seen p is given cs) ≡ next_move f (seen p is [] cs)
unfolding next_move rule_1 rule_2 outdated next_signature next_decryption may_decrypt may_issue condition enough issued_as chosen_present
next_seen f p is given cs = refl

-- ---- what calls look at

pub join_seen : (s : State) (p : ℕ) → join (seen s.present [] [] []) p ≡ join s p
unfolding join
join_seen s p = refl

pub deliver_seen : (f : Fixed) (s : State) (id p rows : ℕ) → deliver f (seen 0 s.instances [] []) id p rows ≡ deliver f s id p rows
unfolding deliver
deliver_seen f s id p rows = refl

pub input_seen : (f : Fixed) (s : State) (c k : ℕ) → input f (seen s.present s.instances s.given []) c k ≡ input f s c k
unfolding input
input_seen f s c k = refl

pub finish_seen : (s : State) (caller c : ℕ) → finish (seen 0 [] [] s.circuits) caller c ≡ finish s caller c
unfolding finish
finish_seen s caller c = refl
