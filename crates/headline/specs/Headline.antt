-- The headline: what a report promises of the calls that it prints.
use Rattle.std.specs.Prelude.{◌≡◌, ◌⊎◌, ℕ, ◌<◌, ◌≤◌, List, ◌∷◌, ◌++◌, length, true, false, Option, Some, None}
use Rattle.std.specs.List.{slice_index_or, flat_map, Contains}
use Rattle.share_spec.specs.Sets.{has, count}
use Rattle.proto_names.specs.Instances.{instance}
use Rattle.proto_names.specs.declared.signature.Signature.TheVariants.{Dec}
use Rattle.proto_names.specs.declared.instance.Instance.{Instance}
use Rattle.proto_names.specs.declared.instance.Stage.TheVariants.{Complete}
use Rattle.noise_ledger.specs.declared.over.Place.{Place}
use Rattle.noise_ledger.specs.Bounds.{limit}
use Rattle.noise_ledger.specs.Ledger.{first_over, place_bound}
use Rattle.session_rules.specs.declared.call.Call.TheVariants as call
use Rattle.session_rules.specs.declared.call.Entry.{Entry}
use Rattle.session_rules.specs.declared.reply.Reply.TheVariants.{Completed}
use Rattle.session_rules.specs.declared.fixed.Fixed.{Fixed}
use Rattle.session_rules.specs.declared.state.CircuitState.TheVariants.{Evaluated, Answered}
use Rattle.session_rules.specs.States.{State, threshold_at, group_now, plan, circuit, is_admitted, is_given, has_done}
use Rattle.session_rules.specs.Steps.{is_input, has_keys, ready}
use Rattle.session_rules.specs.Histories.{IsLegal}
use Rattle.session_rules.specs.Facts.{Numbered}
use Rattle.session_rules.specs.Grounds.{NoneOpened}
use Rattle.session_rules.specs.Completions.{HasDecryption}
use Rattle.session_script.specs.Asked.{Asked}
use Rattle.event_lines.specs.Instances.{instance_line}
use Rattle.event_lines.specs.Events.{event_line}
use Rattle.run_report.specs.Digests.{polys_digest}
use Rattle.run_report.specs.Lines.{circuit_line, output_line}
use Rattle.run_report.specs.Reports.{bounding, name_at, refused_line, open_line, places, circuit_text, output_text, instance_text, report}
use Rattle.headline.specs.Asked.{rules_asked, state_of, nodes_asked, threshold_of, plain, output, aggregate, decrypted}
use Rattle.headline.specs.Course.{Course, Keeps}

-- ---- the lines of the report

-- one for each circuit and each output, of each instance and of each call, in this order, and nothing else
abbrev pub IsTold : Asked → State → List Entry → List ℕ → Type 0
IsTold a s es text =
    text ≡ flat_map (circuit_text a s) (places a) ++ flat_map (output_text a s) (places a) ++ flat_map (instance_text a s) s.instances ++ flat_map event_line es

-- ---- circuits that are refused

-- by the first place at which the ledger's bound is above the limit: the line of circuit c names it with the
-- bound there and the limit; where there is none, the line has an answer or says that the circuit is open
abbrev pub Judged : Asked → State → ℕ → Option Place → Type 0
Judged a s c None = (circuit_text a s c ≡ circuit_line (name_at a c) (plain a c)) ⊎ (circuit_text a s c ≡ open_line (name_at a c))
Judged a s c (Some place) =
    circuit_text a s c ≡ refused_line (name_at a c) place (place_bound (bounding a) (nodes_asked a c) place) (limit (bounding a))

-- ---- aggregates

-- a complete instance: its set has as many parties as act together, all of them have sent, and the digest that
-- is printed is that of the sum of one share of each
pub record IsAggregate (a : Asked) (s : State) (i : Instance) : Type 0 where
  pub parties : count i.set.bits ≡ threshold_of a s i
  pub sent : i.sent ≡ i.set
  pub printed : instance_text a s i ≡ instance_line i (polys_digest (aggregate a s i))

-- an instance whose last share was counted: as many parties as act together are its set, all of them have sent, and
-- the circuit of a decryption is answered
pub record IsCompleted (a : Asked) (s : State) (id : ℕ) : Type 0 where
  pub item : Instance
  pub issued : instance s.instances id ≡ Some item
  pub parties : count item.set.bits ≡ threshold_of a s item
  pub sent : item.sent ≡ item.set
  pub answered : (c : ℕ) → item.signature ≡ Dec c → circuit s.circuits c ≡ Answered

-- the entry of a share that was the last one of instance id
pub record IsCompletion (e : Entry) (id : ℕ) : Type 0 where
  pub party : ℕ
  pub rows : ℕ
  pub call : e.call ≡ call.Deliver id party rows
  pub reply : e.reply ≡ Completed

-- ---- answers

-- a circuit that is answered: its line has the plain value, the line of its output has the digest of the
-- ciphertext that its nodes make, and that is what T parties decrypt to that value
pub record IsAnswer (a : Asked) (s : State) (c : ℕ) : Type 0 where
  pub printed : circuit_text a s c ≡ circuit_line (name_at a c) (plain a c)
  pub told : output_text a s c ≡ output_line (name_at a c) (output a s c)
  pub decryption : HasDecryption s c
  pub value : (d : HasDecryption s c) → decrypted a s c d.decryption ≡ plain a c

-- ---- circuits that are open

-- why a circuit has no answer
pub data Waits (f : Fixed) (s : State) (c : ℕ) : Type 0 where
  -- an input isn't given
  input : (k : ℕ) → k < length (plan f c).owners → is_given s c k ≡ false → Waits f s c
  -- a relinearisation or rotation key that it needs isn't complete (without a public key no input is given)
  key : has_keys s (plan f c) ≡ false → Waits f s c
  -- it is evaluated, and has no complete decryption
  decryption : circuit s.circuits c ≡ Evaluated → has_done (Dec c) s.instances ≡ false → Waits f s c

-- ---- the end

-- at least T parties are present, and among them is the owner of each input of an admitted circuit that isn't given
pub record CanAnswer (f : Fixed) (s : State) : Type 0 where
  pub enough : threshold_at f (group_now s) ≤ count s.present
  pub owners : (c k : ℕ) → is_input f c k ≡ true → is_given s c k ≡ false → has s.present (slice_index_or (plan f c).owners k 0) ≡ true

-- no instance waits for a share, no circuit waits to be evaluated, and where they can be, all admitted circuits
-- are answered
pub record IsSettled (f : Fixed) (circuits : ℕ) (s : State) : Type 0 where
  pub none_opened : NoneOpened s
  pub none_ready : (c : ℕ) → c < circuits → ready f s c ≡ false
  pub answered : CanAnswer f s → (c : ℕ) → c < circuits → is_admitted (plan f c) ≡ true → circuit s.circuits c ≡ Answered

-- ---- the headline, of a script, a course, and calls with their replies

pub record Headline (a : Asked) (course : Course) (es : List Entry) : Type 0 where
  -- the lines of the report are those of which the other fields speak
  pub told : IsTold a (state_of a es) es (report a es)
  -- from the session's beginning each reply is the one that the rules say
  pub legal : IsLegal (rules_asked a) es
  -- each caller's calls stand in the order of the script. In the serial course caller 0 alone has those present join,
  -- makes the calls of each lane, and then settles in at most six rounds
  pub course_kept : Keeps course a es
  -- the line of a circuit says refused, with its first place above the limit, exactly where the noise ledger doesn't
  -- admit it
  pub refused : (c : ℕ) → c < length a.circuits → Judged a (state_of a es) c (first_over (bounding a) (nodes_asked a c))
  -- instances are numbered from 1 on, so no two have the same number
  pub numbered : Numbered (state_of a es).instances
  -- every aggregate that is reported complete is, by its digest, the sum of one honest share of each of its T parties
  pub aggregates : (i : Instance) → Contains (state_of a es).instances i → i.stage ≡ Complete → IsAggregate a (state_of a es) i
  -- from each entry `completed` on, all T parties of the instance have sent, also where it is void then or later; and
  -- where it is a decryption, its circuit is answered, from that very entry on
  pub completed : (before middle after : List Entry) (e : Entry) (id : ℕ) → es ≡ before ++ e ∷ middle ++ after → IsCompletion e id
      → IsCompleted a (state_of a (before ++ e ∷ middle)) id
  -- every circuit that is answered prints its plain value modulo t and its output's digest, has a complete decryption,
  -- and that value is what its output and each complete decryption of it decrypt to
  pub answers : (c : ℕ) → c < length a.circuits → circuit (state_of a es).circuits c ≡ Answered → IsAnswer a (state_of a es) c
  -- an admitted circuit that isn't answered prints that it is open, and an input or a key is missing, or it is
  -- evaluated and its decryption is missing
  pub open_ones : (c : ℕ) → c < length a.circuits → is_admitted (plan (rules_asked a) c) ≡ true → (circuit (state_of a es).circuits c ≡ Answered → ⊥)
      → (circuit_text a (state_of a es) c ≡ open_line (name_at a c)) × Waits (rules_asked a) (state_of a es) c
  -- at the end no instance is opened and no circuit is ready; and where at least T parties are present, and the owners
  -- of the inputs of admitted circuits that aren't given, every admitted circuit is answered
  pub settled : IsSettled (rules_asked a) (length a.circuits) (state_of a es)
