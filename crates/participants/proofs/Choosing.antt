-- Who is chosen: members who come before those who are left, and as many as are wanted.
use Rattle.std.proofs.Common.{◌≡◌, ◌∙◌, refl, ℕ, zero, suc, ◌+◌, ◌^◌, ◌<◌, ◌≤◌, min, true, false, ◌⊎◌, inl, inr, List, Option, None, Some, arith}
use Rattle.std.proofs.lemmas.Bool.{cases_eq, both_ways, false_from_ne_true}
use Rattle.share_spec.specs.Sets.{has, members, count}
use Rattle.proto_names.specs.Groups.{with_party, without_party}
use Rattle.proto_names.proofs.Members.{members_all}
use Rattle.participants.specs.Loads.{first_of, chosen_from, chosen}
use Rattle.participants.specs.Laws.{ComesBefore, ChosenAreMembers, ChosenComeFirst, ChosenAreMany, AllAreChosen, ChosenAreParties}
use Rattle.participants.proofs.Parties.{has_party, has_nobody, with_keeps, with_has, with_cases, with_small, without_keeps, without_from, count_none, count_with, count_without}
use Rattle.participants.proofs.Firsts.{First, IsFirst, first_is}

-- ---- one party more

pub chosen_done : (loads : List ℕ) (rest taken : ℕ) → chosen_from 0 loads rest taken ≡ taken
unfolding chosen_from
chosen_done loads rest taken = refl

pub chosen_all : (k : ℕ) (loads : List ℕ) (rest taken : ℕ) → first_of loads (members rest) ≡ None → chosen_from k loads rest taken ≡ taken
unfolding chosen_from
chosen_all zero loads rest taken e = refl
chosen_all (suc k) loads rest taken e = rw (e, chosen_from) refl

pub chosen_next : (k : ℕ) (loads : List ℕ) (rest taken p : ℕ) → first_of loads (members rest) ≡ Some p
    → chosen_from (suc k) loads rest taken ≡ chosen_from k loads (without_party rest p) (with_party taken p)
unfolding chosen_from
chosen_next k loads rest taken p e = rw (e, chosen_from) refl

pub record Found (loads : List ℕ) (set : ℕ) : Type 0 where
  pub party : ℕ
  pub is : first_of loads (members set) ≡ Some party
  pub first : IsFirst loads set party 32

found_cases : (loads : List ℕ) (set : ℕ) (first : Option ℕ) → first_of loads (members set) ≡ first → First loads set 32 first
    → ((first_of loads (members set) ≡ None) × ((p : ℕ) → p ≤ 32 → has set p ≡ false)) ⊎ Found loads set
found_cases loads set None e f = inl (e, f)
found_cases loads set (Some p) e f = inr (record { party = p; is = e; first = f })

-- a set is empty, or has a party that comes first
pub found : (loads : List ℕ) (set : ℕ) → ((first_of loads (members set) ≡ None) × ((p : ℕ) → p ≤ 32 → has set p ≡ false)) ⊎ Found loads set
found loads set = found_cases loads set (first_of loads (members set)) refl (first_is loads set)

-- ---- those who were taken and the rest

record Split (loads : List ℕ) (set rest taken : ℕ) : Type 0 where
  left : (p : ℕ) → has rest p ≡ true → has set p ≡ true
  gone : (p : ℕ) → has taken p ≡ true → has set p ≡ true
  each : (p : ℕ) → has set p ≡ true → (has taken p ≡ true) ⊎ (has rest p ≡ true)
  before : (p q : ℕ) → has taken p ≡ true → has rest q ≡ true → ComesBefore loads p q
  small : taken < 2 ^ 32

nobody : (p : ℕ) → has 0 p ≡ true → ⊥
nobody p h = both_ways (has 0 p) (has_nobody p) h

whole : (loads : List ℕ) (set : ℕ) → Split loads set set 0
whole loads set = record {
  left = λ p h. h;
  gone = λ p h. absurd (nobody p h);
  each = λ p h. inr h;
  before = λ p q h g. absurd (nobody p h);
  small = omega arith;
}

moved : (loads : List ℕ) (set rest taken p : ℕ) → Split loads set rest taken → IsFirst loads rest p 32
    → Split loads set (without_party rest p) (with_party taken p)
moved loads set rest taken p s f =
    let range = has_party rest p f.member in
    let first = range.0 in let last = range.1 in
    record {
      left = λ q h. s.left q ((without_from rest p q first last h).1);
      gone = λ q h. elim (with_cases taken p q first h) [
        | inl same ↦ rw same (s.left p f.member)
        | inr old ↦ s.gone q old
      ];
      each = λ q h. elim (cases_eq q p) [
        | inl same ↦ inl (rw same (with_has taken p first last))
        | inr other ↦ elim (s.each q h) [
          | inl old ↦ inl (with_keeps taken p q old)
          | inr rests ↦ inr (without_keeps rest p q first last other rests)
        ]
      ];
      before = λ a q h g.
          let w = without_from rest p q first last g in
          elim (with_cases taken p a first h) [
            | inl same ↦ rw same (f.before q ((has_party rest q w.1).1) w.1 w.0)
            | inr old ↦ s.before a q old w.1
          ];
      small = with_small taken p s.small last;
    }

record Done (loads : List ℕ) (set taken : ℕ) : Type 0 where
  rest : ℕ
  split : Split loads set rest taken

done : (k : ℕ) (loads : List ℕ) (set rest taken : ℕ) → Split loads set rest taken → Done loads set (chosen_from k loads rest taken)
done zero loads set rest taken s = rw (chosen_done loads rest taken) (record { rest = rest; split = s })
done (suc k) loads set rest taken s = elim (found loads rest) [
  | inl none ↦ rw (chosen_all (suc k) loads rest taken none.0) (record { rest = rest; split = s })
  | inr f ↦ rw (chosen_next k loads rest taken f.party f.is) (done k loads set (without_party rest f.party) (with_party taken f.party) (moved loads set rest taken f.party s f.first))
]

ended : (k : ℕ) (loads : List ℕ) (set : ℕ) → Done loads set (chosen k loads set)
unfolding chosen
ended k loads set = done k loads set set 0 (whole loads set)

pub chosen_are_members : ChosenAreMembers
chosen_are_members k loads set p h = let d = ended k loads set in d.split.gone p h

pub chosen_are_parties : ChosenAreParties
chosen_are_parties k loads set = let d = ended k loads set in d.split.small

pub chosen_come_first : ChosenComeFirst
chosen_come_first k loads set p q h m none =
    let d = ended k loads set in
    elim (d.split.each q m) [
      | inl taken ↦ absurd (both_ways (has (chosen k loads set) q) none taken)
      | inr left ↦ d.split.before p q h left
    ]

-- ---- how many

never_itself : (loads : List ℕ) (p : ℕ) → ComesBefore loads p p → ⊥
never_itself loads p (inl lower) = omega arith
never_itself loads p (inr same) = let l = same.1 in omega arith

-- who is left wasn't taken
apart : (loads : List ℕ) (set rest taken p : ℕ) → Split loads set rest taken → has rest p ≡ true → has taken p ≡ false
apart loads set rest taken p s h = false_from_ne_true (has taken p) (λ g. never_itself loads p (s.before p p g h))

many : (k : ℕ) (loads : List ℕ) (set rest taken : ℕ) → Split loads set rest taken → count (chosen_from k loads rest taken) ≡ count taken + min k (count rest)
many zero loads set rest taken s = rw (chosen_done loads rest taken) (omega arith)
many (suc k) loads set rest taken s = elim (found loads rest) [
  | inl none ↦
      let empty : count rest ≡ 0 = rw (members_all rest) (count_none rest 32 none.1) in
      rw (chosen_all (suc k) loads rest taken none.0, empty) (omega arith)
  | inr f ↦
      let p = f.party in
      let range = has_party rest p f.first.member in
      let more = count_with taken p range.0 range.1 (apart loads set rest taken p s f.first.member) in
      let less = count_without rest p f.first.member in
      rw (chosen_next k loads rest taken p f.is)
      (many k loads set (without_party rest p) (with_party taken p) (moved loads set rest taken p s f.first) ∙ omega (arith, more, less))
]

nobody_is_none : count 0 ≡ 0
nobody_is_none = rw (members_all 0) (count_none 0 32 (λ p l. has_nobody p))

pub count_chosen : (k : ℕ) (loads : List ℕ) (set : ℕ) → count (chosen k loads set) ≡ min k (count set)
unfolding chosen
count_chosen k loads set = many k loads set set 0 (whole loads set) ∙ omega (arith, nobody_is_none)

pub chosen_are_many : ChosenAreMany
chosen_are_many k loads set l = count_chosen k loads set ∙ omega arith

-- all of them, where they are no more than are wanted
whoever : (k : ℕ) (loads : List ℕ) (rest taken p : ℕ) → count rest ≤ k → (has taken p ≡ true) ⊎ (has rest p ≡ true) → has (chosen_from k loads rest taken) p ≡ true
whoever zero loads rest taken p l h = rw (chosen_done loads rest taken) (elim h [
  | inl old ↦ old
  | inr left ↦ absurd (omega (arith, count_without rest p left))
])
whoever (suc k) loads rest taken p l h = elim (found loads rest) [
  | inl none ↦ rw (chosen_all (suc k) loads rest taken none.0) (elim h [
    | inl old ↦ old
    | inr left ↦ absurd (both_ways (has rest p) (none.1 p ((has_party rest p left).1)) left)
  ])
  | inr f ↦
      let a = f.party in
      let range = has_party rest a f.first.member in
      rw (chosen_next k loads rest taken a f.is)
      (whoever k loads (without_party rest a) (with_party taken a) p (omega (arith, count_without rest a f.first.member)) (elim h [
        | inl old ↦ inl (with_keeps taken a p old)
        | inr left ↦ elim (cases_eq p a) [
          | inl same ↦ inl (rw same (with_has taken a range.0 range.1))
          | inr other ↦ inr (without_keeps rest a p range.0 range.1 other left)
        ]
      ]))
]

pub all_are_chosen : AllAreChosen
unfolding chosen
all_are_chosen k loads set p l h = whoever k loads set 0 p l (inr h)
