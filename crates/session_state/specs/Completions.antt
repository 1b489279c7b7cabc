-- What a complete instance gives by itself: the public key, the answer of a circuit, or nothing.
use Rattle.std.specs.Prelude.{◌≡◌, ℕ, List, [], slice_index_or, ⊤}
use Rattle.ring_spec.specs.Ring.{IsPoly, ring_sum}
use Rattle.ring_spec.specs.Pairs.{Key}
use Rattle.bfv_spec.specs.Scheme.{decryption}
use Rattle.bfv_spec.specs.Shares.{pk_from}
use Rattle.param_set.specs.declared.params.Params.{Params}
use Rattle.proto_names.specs.declared.signature.Signature.{Signature}
use Rattle.proto_names.specs.declared.signature.Signature.TheVariants.{Pk, Rlk1, Rlk2, Rot, Dec}
use Rattle.proto_names.specs.declared.instance.Instance.{Instance}
use Rattle.proto_names.specs.Instances.{after_share}
use Rattle.session_rules.specs.States.{State}
use Rattle.session_rules.specs.Deeds.{answered_by}
use Rattle.session_spec.specs.Settings.{Setting}
use Rattle.session_spec.specs.Stores.{Store, held_output, cipher_or}
use Rattle.session_state.specs.declared.completing.Made.{Made}
use Rattle.session_state.specs.declared.completing.Made.TheVariants.{PublicKey, Answer, Sums}

-- what an instance gives, where the store holds the outputs, and these are its sums: the public key
pub record IsKey (w : Setting) (sums : List (List ℕ)) (i : Instance) (key : Key) : Type 0 where
  pub signature : i.signature ≡ Pk
  pub value : key ≡ pk_from w.numbers.q w.numbers.n w.public i.id (slice_index_or sums 0 [])

-- or the answer of circuit c
pub record IsAnswer (p : Params) (w : Setting) (h : Store) (sums : List (List ℕ)) (i : Instance) (c : ℕ) (answer : List ℕ) : Type 0 where
  pub signature : i.signature ≡ Dec c
  pub value : answer ≡ decryption w.numbers.q w.numbers.t (ring_sum w.numbers.q w.numbers.n (cipher_or (held_output h c)).c0 (slice_index_or sums 0 []))
  pub fits : IsPoly p.t p.n answer

-- or nothing but its sums: a round of the relinearisation key, or a rotation key
abbrev pub HasSumsAlone : Signature → Type 0
HasSumsAlone Pk = ⊥
HasSumsAlone Rlk1 = ⊤
HasSumsAlone Rlk2 = ⊤
HasSumsAlone (Rot g) = ⊤
HasSumsAlone (Dec c) = ⊥

abbrev pub IsMade : Params → Setting → Store → List (List ℕ) → Instance → Made → Type 0
IsMade p w h sums i (PublicKey key) = IsKey w sums i key.value
IsMade p w h sums i (Answer c value) = IsAnswer p w h sums i c value
IsMade p w h sums i Sums = HasSumsAlone i.signature

-- the state once the last share of an instance is counted, before anything is issued
abbrev pub last_counted : State → Instance → ℕ → ℕ → State
last_counted s i id p = record s { instances = after_share id p s.instances; circuits = answered_by i.signature s.circuits }
