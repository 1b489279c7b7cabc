-- The facts about a list of instances, after each has changed and after one is issued.
use Rattle.std.proofs.Common.{◌≡◌, ◌∙◌, sym, ap, subst, refl, ℕ, ◌+◌, ◌<◌, ◌^◌, true, false, inl, inr, List, [], ◌∷◌, ◌++◌, length, map, get_or, Contains, arith}
use Rattle.std.proofs.lemmas.Bool.{both_ways, cases_lt}
use Rattle.std.proofs.lemmas.List.{get_or-map, get_or_append_left, get_or_push, length-map, length_push}
use Rattle.std.proofs.lemmas.List.Elements.{Contains-get_or, Contains-append_left, Contains-push_cases}
use Rattle.share_spec.specs.Sets.{has, count}
use Rattle.proto_names.specs.Instances.{fresh, with_fresh}
use Rattle.proto_names.specs.declared.signature.Signature.{Signature}
use Rattle.proto_names.specs.declared.signature.Signature.TheVariants.{Rlk1, Rlk2, Dec}
use Rattle.proto_names.specs.declared.sets.PartySet.{PartySet}
use Rattle.proto_names.specs.declared.instance.Instance.{Instance}
use Rattle.proto_names.specs.declared.instance.Stage.TheVariants.{Complete}
use Rattle.session_rules.specs.declared.state.CircuitState.{CircuitState}
use Rattle.session_rules.specs.declared.state.CircuitState.TheVariants.{Evaluated}
use Rattle.session_rules.specs.declared.fixed.Fixed.{Fixed}
use Rattle.session_rules.specs.States.{State, circuit, has_live}
use Rattle.session_rules.specs.Facts.{IsLive, IsSameLater, IsSound, Decrypts, HasFirst, Numbered, OneLives, Kept}
use Rattle.session_rules.proofs.Contained.{contains_map, contains_map_from}
use Rattle.session_rules.proofs.Marks.{IsDone, none_lives}
use Rattle.session_rules.proofs.Later.{later_lives}
use Rattle.session_rules.proofs.PartySets.{has_nobody, outside_nobody}

-- ---- each instance has changed

pub numbered_map : (g : Instance → Instance) (is : List Instance) → ((a : Instance) → Contains is a → IsSameLater a (g a)) → Numbered is → Numbered (map g is)
numbered_map g is later n k d l =
    let within : k < length is = omega (arith, length-map is g) in
    ap (λ (z : Instance). z.id) (get_or-map g is k d d within) ∙ (later (get_or is k d) (Contains-get_or is k d within)).id ∙ n k d within

pub one_map : (g : Instance → Instance) (is : List Instance) → ((a : Instance) → Contains is a → IsSameLater a (g a)) → OneLives is → OneLives (map g is)
one_map g is later one i j a b same alive living =
    let x = contains_map_from g is i a in
    let y = contains_map_from g is j b in
    let p = later x.source x.within in
    let q = later y.source y.within in
    let live : IsLive (g x.source) = subst (λ (z : Instance). IsLive z) (sym x.same) alive in
    let live' : IsLive (g y.source) = subst (λ (z : Instance). IsLive z) (sym y.same) living in
    let marks : x.source.signature ≡ y.source.signature = sym p.signature ∙ ap (λ (z : Instance). z.signature) x.same ∙ same ∙ sym (ap (λ (z : Instance). z.signature) y.same) ∙ q.signature in
    let ids : x.source.id ≡ y.source.id = one x.source y.source x.within y.within marks (later_lives x.source (g x.source) p live) (later_lives y.source (g y.source) q live') in
    sym (ap (λ (z : Instance). z.id) x.same) ∙ p.id ∙ ids ∙ sym q.id ∙ ap (λ (z : Instance). z.id) y.same

-- a fact about each that the change keeps
pub each_map : (g : Instance → Instance) (is : List Instance) (P Q : Instance → Type 0) → ((a : Instance) → Contains is a → P a → Q (g a)) → ((a : Instance) → Contains is a → P a) → (i : Instance) → Contains (map g is) i → Q i
each_map g is P Q change all i m =
    let x = contains_map_from g is i m in
    subst (λ (z : Instance). Q z) x.same (change x.source x.within (all x.source x.within))

-- the first round of a second one that lives on is left as it is
pub rounds_map : (g : Instance → Instance) (is : List Instance) → ((a : Instance) → Contains is a → IsSameLater a (g a))
    → ((a first : Instance) → Contains is a → a.signature ≡ Rlk2 → IsLive (g a) → Contains is first → IsDone Rlk1 first → first.id ≡ a.round1 → (g first).stage ≡ Complete)
    → ((i : Instance) → Contains is i → i.signature ≡ Rlk2 → IsLive i → HasFirst is i)
    → (i : Instance) → Contains (map g is) i → i.signature ≡ Rlk2 → IsLive i → HasFirst (map g is) i
rounds_map g is later firsts rounds i m second alive =
    let x = contains_map_from g is i m in
    let a = x.source in
    let p = later a x.within in
    let live : IsLive (g a) = subst (λ (z : Instance). IsLive z) (sym x.same) alive in
    let mark : a.signature ≡ Rlk2 = sym p.signature ∙ ap (λ (z : Instance). z.signature) x.same ∙ second in
    let h = rounds a x.within mark (later_lives a (g a) p live) in
    let q = later h.first h.issued in
    subst (λ (z : Instance). HasFirst (map g is) z) x.same (record {
      first = g h.first;
      issued = contains_map g is h.first h.issued;
      signature = q.signature ∙ h.signature;
      complete = firsts a h.first x.within mark live h.issued (record { signature = h.signature; complete = h.complete }) h.id;
      id = q.id ∙ h.id ∙ sym p.round1;
      set = q.set ∙ h.set ∙ sym p.set;
    })

-- ---- one is issued

pub numbered_push : (is : List Instance) (i : Instance) → i.id ≡ length is + 1 → Numbered is → Numbered (is ++ i ∷ [])
numbered_push is i e n k d l = elim (cases_lt k (length is)) [
  | inl less ↦ ap (λ (z : Instance). z.id) (get_or_append_left is (i ∷ []) d k less) ∙ n k d less
  | inr more ↦
      let last : length is ≡ k = omega (arith, length_push is i) in
      ap (λ (z : Instance). z.id) (get_or_push is i d k last) ∙ e ∙ ap (λ (z : ℕ). z + 1) last
]

pub one_push : (is : List Instance) (i : Instance) → has_live i.signature is ≡ false → OneLives is → OneLives (is ++ i ∷ [])
one_push is i none one a b m n same alive living = elim (Contains-push_cases is i a m) [
  | inl old ↦ elim (Contains-push_cases is i b n) [
    | inl other ↦ one a b old other same alive living
    | inr new ↦ absurd (none_lives i.signature is a none old (same ∙ sym (ap (λ (z : Instance). z.signature) new)) alive)
  ]
  | inr new ↦ elim (Contains-push_cases is i b n) [
    | inl other ↦ absurd (none_lives i.signature is b none other (sym same ∙ sym (ap (λ (z : Instance). z.signature) new)) living)
    | inr too ↦ ap (λ (z : Instance). z.id) (sym new ∙ too)
  ]
]

pub each_push : (is : List Instance) (i : Instance) (P : Instance → Type 0) → ((a : Instance) → Contains is a → P a) → P i → (a : Instance) → Contains (is ++ i ∷ []) a → P a
each_push is i P all last a m = elim (Contains-push_cases is i a m) [
  | inl old ↦ all a old
  | inr new ↦ subst (λ (z : Instance). P z) new last
]

first_push : (is : List Instance) (i second : Instance) → HasFirst is second → HasFirst (is ++ i ∷ []) second
first_push is i second h = record {
  first = h.first;
  issued = Contains-append_left is (i ∷ []) h.first h.issued;
  signature = h.signature;
  complete = h.complete;
  id = h.id;
  set = h.set;
}

pub rounds_push : (is : List Instance) (i : Instance) → (i.signature ≡ Rlk2 → HasFirst is i)
    → ((a : Instance) → Contains is a → a.signature ≡ Rlk2 → IsLive a → HasFirst is a)
    → (a : Instance) → Contains (is ++ i ∷ []) a → a.signature ≡ Rlk2 → IsLive a → HasFirst (is ++ i ∷ []) a
rounds_push is i last rounds a m second alive = elim (Contains-push_cases is i a m) [
  | inl old ↦ first_push is i a (rounds a old second alive)
  | inr new ↦ first_push is i a (subst (λ (z : Instance). HasFirst is z) new (last (ap (λ (z : Instance). z.signature) new ∙ second)))
]

-- a new instance by itself
pub fresh_sound : (f : Fixed) (present : ℕ) (is : List Instance) (σ : Signature) (parties : PartySet) (round1 group : ℕ) → parties.bits < 2 ^ 32 → count parties.bits ≡ f.threshold
    → ((p : ℕ) → has parties.bits p ≡ true → has present p ≡ true) → IsSound f present (fresh is σ parties round1 group)
unfolding fresh
fresh_sound f present is σ parties round1 group small many there = record {
  set = small;
  parties = many;
  sent = omega arith;
  senders = λ p h. absurd (both_ways (has 0 p) (has_nobody p) h);
  complete = λ e. cc;
  opened = λ l e. rw (outside_nobody parties.bits) (rw many l);
  awaited = λ e p h n. there p h;
}

pub fresh_decrypts : (circuits : List CircuitState) (is : List Instance) (σ : Signature) (parties : PartySet) (round1 group : ℕ) → ((c : ℕ) → σ ≡ Dec c → circuit circuits c ≡ Evaluated) → Decrypts circuits (fresh is σ parties round1 group)
unfolding fresh
fresh_decrypts circuits is σ parties round1 group h = record { opened = λ c e o. h c e; complete = λ c e o. cc; settled = λ c e. rw (h c e) refl }

-- the state with a new one
pub issue_kept : (f : Fixed) (s : State) (σ : Signature) (parties : PartySet) (round1 group : ℕ) → Kept f s
    → has_live σ s.instances ≡ false
    → parties.bits < 2 ^ 32 → count parties.bits ≡ f.threshold → ((p : ℕ) → has parties.bits p ≡ true → has s.present p ≡ true)
    → ((c : ℕ) → σ ≡ Dec c → circuit s.circuits c ≡ Evaluated)
    → (σ ≡ Rlk2 → HasFirst s.instances (fresh s.instances σ parties round1 group))
    → Kept f (record s { instances = with_fresh s.instances σ parties round1 group })
unfolding fresh
issue_kept f s σ parties round1 group k none small many there decrypts first =
    let is = s.instances in
    let i = fresh is σ parties round1 group in
    record {
      circuits = k.circuits;
      given = k.given;
      numbered = numbered_push is i refl k.numbered;
      one = one_push is i none k.one;
      sound = each_push is i (λ a. IsSound f s.present a) k.sound (fresh_sound f s.present is σ parties round1 group small many there);
      decrypts = each_push is i (λ a. Decrypts s.circuits a) k.decrypts (fresh_decrypts s.circuits is σ parties round1 group decrypts);
      rounds = rounds_push is i first k.rounds;
    }
