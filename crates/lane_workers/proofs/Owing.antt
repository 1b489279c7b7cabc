-- What a party is told that it owes is its own, and of inputs it is told once there is a key, which stays.
use Rattle.std.proofs.Common.{◌≡◌, ◌∙◌, sym, ap, subst, refl, ℕ, ◌<◌, Bool, true, false, not, cond, nat_eq, nat_lt, List, [], ◌∷◌, ◌++◌, length, slice_index_or, map, filter, All, Contains, Option, Some, None, arith}
use Rattle.std.specs.Prelude.{if◌then◌else◌}
use Rattle.std.specs.List.{range_with_len, flat_map}
use Rattle.std.specs.Option.{option_map}
use Rattle.std.proofs.lemmas.Bool.{and_parts, and_from, eqb-true, lt-ltb}
use Rattle.std.proofs.lemmas.List.Elements.{All-nil, All-append, All-map, All-weaker, All-contains_itself}
use Rattle.std.specs.declared.alloc.Global.{Global}
use Rattle.std.specs.declared.sync.Arc.{Arc}
use Rattle.ring_spec.specs.Pairs.{Key, KeyFits}
use Rattle.share_spec.specs.Sets.{has}
use Rattle.proto_names.specs.Instances.{owed_shares, is_done}
use Rattle.proto_names.specs.declared.signature.Signature.TheVariants.{Pk}
use Rattle.proto_names.specs.declared.instance.Instance.{Instance}
use Rattle.session_rules.specs.declared.call.Call.{Call}
use Rattle.session_rules.specs.declared.call.Call.TheVariants as call
use Rattle.session_rules.specs.declared.call.Entry.{Entry}
use Rattle.session_rules.specs.declared.reply.Reply.TheVariants as reply
use Rattle.session_rules.specs.declared.fixed.Fixed.{Fixed}
use Rattle.session_rules.specs.States.{State, opening, plan, is_admitted, is_given, has_done}
use Rattle.session_rules.specs.Steps.{judge, step, pending, place, is_input, lacks_input, owed_of, owed_inputs}
use Rattle.session_rules.specs.Histories.{after, state_after}
use Rattle.session_rules.specs.Tasks.{entry}
use Rattle.session_rules.proofs.Contained.{contains_filter_from, range_within, none_from_find}
use Rattle.session_rules.proofs.Deliveries.{keys_stay}
use Rattle.session_rules.proofs.Keeps.{after_next, histories_keep}
use Rattle.session_rules.proofs.Runs.{after_append}
use Rattle.session_spec.specs.Settings.{Setting, rules}
use Rattle.session_spec.specs.Outputs.{done_instance, key_instance, key_in}
use Rattle.session_spec.specs.Stores.{Store, held_key, key_by}
use Rattle.session_rules.proofs.Issued.{done_here}
use Rattle.session_laws.proofs.Keys.{found_is, key_stays}
use Rattle.session_state.specs.declared.handed.Listing.{Listing}
use Rattle.session_core.specs.Sessions.{Known}
use Rattle.lane_workers.specs.Acting.{Owns, OwnsPlace, IsKey}
use Rattle.lane_workers.specs.Desks.{Fixture, View, Answered, ShowsKey, behind, known_of, rules_of, state_seen}
use Rattle.lane_workers.proofs.Bringing.{at_some}

-- ---- its own

all_flat : {X Y : Type 0} (P : Y → Type 0) (g : X → List Y) (xs : List X) → ((x : X) → All P (g x)) → All P (flat_map g xs)
all_flat P g [] h = All-nil P
all_flat P g (x ∷ xs) h = All-append P (g x) (flat_map g xs) (h x) (all_flat P g xs h)

one_own : (w : Setting) (s : State) (p c k : ℕ) → is_admitted (plan (rules w) c) ≡ true → Contains (filter (lacks_input (rules w) s p c) (range_with_len 0 (length (plan (rules w) c).owners))) k
    → Owns w p c k
unfolding is_input lacks_input
one_own w s p c k admitted m =
    let n = length (plan (rules w) c).owners in
    let both = contains_filter_from (lacks_input (rules w) s p c) (range_with_len 0 n) k m in
    let within = range_within 0 n k both.0 in
    let below : k < n = omega (arith, within.1) in
    let parts = and_parts (nat_eq (slice_index_or (plan (rules w) c).owners k 0) p) (not (is_given s c k)) both.1 in
    record { there = and_from (is_admitted (plan (rules w) c)) (nat_lt k n) admitted (lt-ltb k n below); owner = eqb-true _ p parts.0 }

own_if : (w : Setting) (s : State) (p c : ℕ) (b : Bool) → is_admitted (plan (rules w) c) ≡ b
    → All (OwnsPlace w p) (cond b (map (place c) (filter (lacks_input (rules w) s p c) (range_with_len 0 (length (plan (rules w) c).owners)))) [])
own_if w s p c false e = All-nil (OwnsPlace w p)
own_if w s p c true e =
    let ks = filter (lacks_input (rules w) s p c) (range_with_len 0 (length (plan (rules w) c).owners)) in
    All-map (OwnsPlace w p) (place c) ks (All-weaker (Contains ks) (λ k. OwnsPlace w p (place c k)) (λ k m. one_own w s p c k e m) ks (All-contains_itself ks))

own_of : (w : Setting) (s : State) (p c : ℕ) → All (OwnsPlace w p) (owed_of (rules w) s p c)
unfolding owed_of
own_of w s p c = own_if w s p c (is_admitted (plan (rules w) c)) refl

own_all : (w : Setting) (s : State) (p : ℕ) (b : Bool) → All (OwnsPlace w p) (cond b (flat_map (owed_of (rules w) s p) (range_with_len 0 (length (rules w).plans))) [])
own_all w s p false = All-nil (OwnsPlace w p)
own_all w s p true = all_flat (OwnsPlace w p) (owed_of (rules w) s p) (range_with_len 0 (length (rules w).plans)) (own_of w s p)

-- the inputs that a party owes are its own
pub owed_own : (w : Setting) (s : State) (p : ℕ) → All (OwnsPlace w p) (owed_inputs (rules w) s p)
unfolding owed_inputs
owed_own w s p = own_all w s p (has_done Pk s.instances)

-- ---- a key is told exactly where one is complete

pub key_done : (is : List Instance) (w : Setting) (h : Store) (o : Option Instance) → key_instance is ≡ o → option_map (key_by w h) o ≡ None → has_done Pk is ≡ false
unfolding done_instance has_done
key_done is w h None e n = none_from_find (is_done Pk) is e
key_done is w h (Some i) e n = cc

some_key : (is : List Instance) (w : Setting) (h : Store) (key : Key) (o : Option Instance) → key_instance is ≡ o → option_map (key_by w h) o ≡ Some key → has_done Pk is ≡ true
some_key is w h key None e k = cc
some_key is w h key (Some i) e k = let both = found_is Pk is i e in done_here Pk is i both.0 both.1

pub held_done : (w : Setting) (h : Store) (is : List Instance) (key : Key) → held_key w h is ≡ Some key → has_done Pk is ≡ true
unfolding held_key
held_done w h is key e = some_key is w h key (key_instance is) refl e

-- ---- without a key no input is owed

none_yet : (f : Fixed) (s : State) (p : ℕ) → has_done Pk s.instances ≡ false → owed_inputs f s p ≡ []
unfolding owed_inputs
none_yet f s p e = rw e refl

-- ---- where there is one it stays

-- what is called behind a history leaves the public key, if there was one
key_after : (w : Setting) (seeds : List (List ℕ)) (log later es : List Entry) → later ≡ log ++ es → has_done Pk (state_after (rules w) log).instances ≡ true
    → key_in w seeds (state_after (rules w) log).instances ≡ key_in w seeds (state_after (rules w) later).instances
key_after w seeds log later es e done =
    let f = rules w in
    let s = state_after f log in
    let on = after_next f s es (histories_keep f log) in
    key_stays w seeds s (after f s es) on.0 on.1 done
    ∙ ap (λ (z : State). key_in w seeds z.instances) (sym (after_append f (opening f) log es)) ∙ ap (λ (z : List Entry). key_in w seeds (state_after f z).instances) (sym e)

-- and there still is one
done_after : (w : Setting) (log later es : List Entry) → later ≡ log ++ es → has_done Pk (state_after (rules w) log).instances ≡ true → has_done Pk (state_after (rules w) later).instances ≡ true
done_after w log later es e done =
    let f = rules w in
    let s = state_after f log in
    let on = after_next f s es (histories_keep f log) in
    let there = keys_stay s (after f s es) Pk on.1 (λ x. cc) done in
    subst (λ (z : State). has_done Pk z.instances ≡ true) (sym (ap (state_after f) e ∙ after_append f (opening f) log es)) there

-- a key under which inputs may be encrypted is one later
key_later : (k : Known) (es later more : List Entry) (key : Key) → later ≡ es ++ more → IsKey k (behind k es) key → IsKey k (behind k later) key
key_later k es later more key e x = record {
  complete = done_after k.setting es later more e x.complete;
  fits = x.fits;
  honest = λ t. x.honest t ∙ key_after k.setting k.seeds es later more e x.complete;
}

pub key_on : (v w : View) (more : List Entry) (key : Key) → w.fixed ≡ v.fixed → w.seen ≡ v.seen ++ more → IsKey (known_of v) (state_seen v) key → IsKey (known_of w) (state_seen w) key
key_on v w more key same seen x =
    subst (λ (z : Fixture). IsKey z.known (behind z.known w.seen) key) (sym same) (key_later (known_of v) v.seen w.seen more key seen x)

-- what is handed out with a listing is such a key
pub key_handed : (v w : View) (c : Call) (x : Listing) (a : Arc Key Global) (key : Key) → w.fixed ≡ v.fixed → Answered v w c x.reply ShowsKey x → x.key ≡ Some a → key ≡ a.value
    → IsKey (known_of w) (state_seen w) key
key_handed v w c x a key same y is e =
    let k = known_of v in
    let asked = v.seen ++ y.others in
    let h = y.hands in
    let there : IsKey k (behind k asked) a.value = record {
      complete = at_some (λ (z : Arc Key Global). has_done Pk (behind k asked).instances ≡ true) x.key a is h.complete;
      fits = at_some (λ (z : Arc Key Global). KeyFits k.params.q k.params.n z.value) x.key a is h.fits;
      honest = λ t. at_some (λ (z : Arc Key Global). z.value ≡ key_in k.setting k.seeds (behind k asked).instances) x.key a is (h.honest t);
    } in
    let later = key_later k asked w.seen (entry v.fixed.caller c x.reply ∷ []) a.value y.seen there in
    subst (λ (z : Fixture). IsKey z.known (behind z.known w.seen) key) (sym same) (subst (λ (z : Key). IsKey k (behind k w.seen) z) (sym e) later)

-- ---- the listing

listed_then : (f : Fixed) (s : State) (p : ℕ) (b : Bool) (ids : List ℕ) (places : List (ℕ × ℕ)) → (if b then reply.List (owed_shares p s.instances) (owed_inputs f s p) else reply.Absent) ≡ reply.List ids places
    → places ≡ owed_inputs f s p
listed_then f s p true ids places e = cc
listed_then f s p false ids places e = cc

listed_inputs : (f : Fixed) (s : State) (who p : ℕ) (ids : List ℕ) (places : List (ℕ × ℕ)) → (step f s who (call.Pending p)).0 ≡ reply.List ids places → places ≡ owed_inputs f s p
unfolding step judge pending
listed_inputs f s who p ids places e = listed_then f s p (has s.present p) ids places e

-- the inputs that a listing tells are its party's own
pub own_listed : (v w : View) (p : ℕ) (x : Listing) (ids : List ℕ) (places : List (ℕ × ℕ)) → Answered v w (call.Pending p) x.reply ShowsKey x → x.reply ≡ reply.List ids places
    → All (OwnsPlace (known_of v).setting p) places
own_listed v w p x ids places y is =
    let k = known_of v in
    let s = behind k (v.seen ++ y.others) in
    subst (λ (z : List (ℕ × ℕ)). All (OwnsPlace k.setting p) z) (sym (listed_inputs (rules_of v) s v.fixed.caller p ids places (sym y.reply ∙ is))) (owed_own k.setting s p)

-- and none where no key is handed out
pub none_listed : (v w : View) (p : ℕ) (x : Listing) (ids : List ℕ) (places : List (ℕ × ℕ)) → Answered v w (call.Pending p) x.reply ShowsKey x → x.reply ≡ reply.List ids places → x.key ≡ None
    → places ≡ []
none_listed v w p x ids places y is none =
    let s = behind (known_of v) (v.seen ++ y.others) in
    listed_inputs (rules_of v) s v.fixed.caller p ids places (sym y.reply ∙ is) ∙ none_yet (rules_of v) s p (y.hands.none none)
