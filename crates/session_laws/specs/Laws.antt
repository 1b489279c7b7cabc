-- What holds of honest stores.
use Rattle.std.specs.Prelude.{◌≡◌, ℕ, ◌<◌, ◌≤◌, ◌⊎◌, true, List, [], ◌∷◌, map, length, slice_index_or, Some, None}
use Rattle.ring_spec.specs.Ring.{ring_sum}
use Rattle.ring_spec.specs.Pairs.{Cipher, Key}
use Rattle.draw_spec.specs.Places.{Seed}
use Rattle.bfv_spec.specs.Scheme.{decryption}
use Rattle.share_spec.specs.Sets.{count}
use Rattle.param_set.specs.declared.params.Params.{Params}
use Rattle.noise_ledger.specs.Bounds.{numbers_for}
use Rattle.noise_ledger.specs.Ledger.{first_over}
use Rattle.cipher_spec.specs.Keys.{Keys}
use Rattle.proto_names.specs.Roles.{Role}
use Rattle.proto_names.specs.declared.signature.Signature.TheVariants.{Pk, Dec}
use Rattle.proto_names.specs.declared.instance.Instance.{Instance}
use Rattle.session_rules.specs.declared.call.Call.{Call}
use Rattle.session_rules.specs.States.{State, is_admitted, plan, circuit, opening}
use Rattle.session_rules.specs.Steps.{deliver, input, finish, ready, judge, step}
use Rattle.session_rules.specs.Facts.{Kept, IsLater, is_begun}
use Rattle.session_rules.specs.Grounds.{Grounded}
use Rattle.session_spec.specs.Settings.{Setting, rules, nodes_at, input_count, plain_at, IsSetting, HasValues, NeedsNoSwitch}
use Rattle.session_spec.specs.Shares.{full_sums, key_of}
use Rattle.session_spec.specs.Outputs.{key_instance, key_in, keys_in, inputs_of, output_of}
use Rattle.session_spec.specs.Stores.{Store, cipher_or, key_by, held_keys, empty, Brought, share_brought, cipher_brought, store_done}
use Rattle.session_spec.specs.Honesty.{Matches, IsHonest, BringsShare, BringsInput, BringsOutput, Brings}

-- ---- the ledger's T

-- the ledger asked with a threshold admits circuit c
abbrev pub Admits : Params → Setting → ℕ → ℕ → Type 0
Admits p w threshold c = first_over (numbers_for p threshold) (nodes_at w c) ≡ None

-- a circuit that the rules begin as admitted is admitted by the ledger asked with the parameters' T
abbrev pub RulesAskTheLedger : Type 0
RulesAskTheLedger =
    (p : Params) (w : Setting) (c : ℕ) → IsSetting p w → c < length w.offers
    → is_admitted (plan (rules w) c) ≡ true → Admits p w p.threshold c

-- the parties of a role act together: as many as reconstruct the secret, and at most the ledger's threshold
pub record ActsWithin (w : Setting) (threshold : ℕ) (role : Role) : Type 0 where
  pub parties : count role.set.bits ≡ w.numbers.threshold
  pub most : count role.set.bits ≤ threshold

-- ---- answers

-- a public key that serves a circuit: that of an instance whose parties act within the ledger's threshold; any where
-- the circuit has no input
pub record IsSessionKey (w : Setting) (threshold : ℕ) (seeds : List Seed) (key : Key) : Type 0 where
  pub role : Role
  pub signature : role.signature ≡ Pk
  pub acts : ActsWithin w threshold role
  pub made : key ≡ key_of w seeds role

abbrev pub Serves : Setting → ℕ → List Seed → ℕ → Key → Type 0
Serves w threshold seeds c key = (input_count w c ≡ 0) ⊎ IsSessionKey w threshold seeds key

-- the instance of a decryption of circuit c, whose parties act within the ledger's threshold
pub record IsDecryption (w : Setting) (threshold c : ℕ) (role : Role) : Type 0 where
  pub signature : role.signature ≡ Dec c
  pub acts : ActsWithin w threshold role

-- a complete decryption of the output of a circuit that the ledger admits gives its plain value, where the circuits need
-- no key switch, for any threshold that the ledger is asked with
abbrev pub AnswersArePlain : Type 0
AnswersArePlain =
    (p : Params) (w : Setting) (threshold : ℕ) (seeds : List Seed) (c : ℕ) (role : Role) (keys : Keys)
    → IsSetting p w → HasValues p w → NeedsNoSwitch w → length seeds ≡ p.parties → c < length w.offers
    → Admits p w threshold c → IsDecryption w threshold c role → Serves w threshold seeds c keys.public
    → decryption p.q p.t (ring_sum p.q p.n (output_of w seeds keys c).c0
    (slice_index_or (full_sums w seeds role ((output_of w seeds keys c).c1 ∷ [])) 0 []))
    ≡ plain_at w c

-- what stands before a call: a setting with its values whose circuits need no key switch, a state that calls lead to,
-- and an honest store of it
pub record Stands (p : Params) (w : Setting) (seeds : List Seed) (s : State) (h : Store) : Type 0 where
  pub setting : IsSetting p w
  pub values : HasValues p w
  pub free : NeedsNoSwitch w
  pub parties : length seeds ≡ p.parties
  pub kept : Kept (rules w) s
  pub grounded : Grounded (rules w) s
  pub matches : Matches w s h
  pub honest : IsHonest w seeds s h

-- ---- calls keep a store honest

abbrev pub OpeningIsHonest : Type 0
OpeningIsHonest = (w : Setting) (seeds : List Seed) → IsHonest w seeds (opening (rules w)) (empty w)

-- whatever is called, where what is brought to the deed is honest
abbrev pub CallsKeepHonest : Type 0
CallsKeepHonest =
    (p : Params) (w : Setting) (seeds : List Seed) (s : State) (h : Store) (caller : ℕ) (c : Call) (b : Brought)
    → Stands p w seeds s h → Brings w seeds s (judge (rules w) s caller c).deed b
    → IsHonest w seeds (step (rules w) s caller c).1
    (store_done w (judge (rules w) s caller c).deed b (step (rules w) s caller c).1.instances h)

-- a share, an input and an output as calls bring them are so
abbrev pub SharesAreBrought : Type 0
SharesAreBrought =
    (w : Setting) (seeds : List Seed) (s : State) (id party : ℕ) (rows : List (List ℕ))
    → Kept (rules w) s → BringsShare w seeds s id party rows
    → Brings w seeds s (deliver (rules w) s id party (length rows)).deed (share_brought rows)

abbrev pub InputsAreBrought : Type 0
InputsAreBrought =
    (w : Setting) (seeds : List Seed) (s : State) (c k : ℕ) (ct : Cipher) → BringsInput w seeds s c k ct
    → Brings w seeds s (input (rules w) s c k).deed (cipher_brought ct)

abbrev pub OutputsAreBrought : Type 0
OutputsAreBrought =
    (w : Setting) (seeds : List Seed) (s : State) (who c : ℕ) (ct : Cipher) → BringsOutput w seeds s who c ct
    → Brings w seeds s (finish s who c).deed (cipher_brought ct)

-- ---- what is handed out

-- the keys that the counted sums make are those of honest parties: the public key, and those of each circuit
abbrev pub HeldKeysAreKeys : Type 0
HeldKeysAreKeys =
    (p : Params) (w : Setting) (seeds : List Seed) (s : State) (h : Store) (i : Instance) → Stands p w seeds s h
    → key_instance s.instances ≡ Some i → key_by w h i ≡ key_in w seeds s.instances

abbrev pub CircuitsHaveTheirKeys : Type 0
CircuitsHaveTheirKeys =
    (p : Params) (w : Setting) (seeds : List Seed) (s : State) (h : Store) (c : ℕ) → Stands p w seeds s h
    → c < length w.offers → held_keys w h s.instances c ≡ keys_in w seeds s.instances c

-- a circuit that is ready has its inputs
abbrev pub ReadyOnesHaveInputs : Type 0
ReadyOnesHaveInputs =
    (p : Params) (w : Setting) (seeds : List Seed) (s : State) (h : Store) (c : ℕ) → Stands p w seeds s h
    → c < length w.offers → ready (rules w) s c ≡ true
    → map cipher_or (slice_index_or h.inputs c []) ≡ inputs_of w seeds (key_in w seeds s.instances) c

-- the output of a circuit that is begun is the same in every later state
abbrev pub OutputsStay : Type 0
OutputsStay =
    (w : Setting) (seeds : List Seed) (s t : State) (c : ℕ)
    → Kept (rules w) s → Grounded (rules w) s → Kept (rules w) t → IsLater s t → is_begun (circuit s.circuits c) ≡ true
    → output_of w seeds (keys_in w seeds s.instances c) c ≡ output_of w seeds (keys_in w seeds t.instances c) c
