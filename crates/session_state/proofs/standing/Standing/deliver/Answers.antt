-- A share that isn't refused is counted, and what the last one leads to is done.
use Rattle.std.proofs.Common.{◌≡◌, ◌≢◌, ◌∙◌, sym, ap, refl, ℕ, List, length, Some}
use Rattle.std.proofs.lemmas.Bool.{eq-eqb, ne_eqb}
use Rattle.proto_names.specs.Instances.{missing, after_share}
use Rattle.proto_names.specs.declared.instance.Instance.{Instance}
use Rattle.session_rules.specs.declared.reply.Reply.TheVariants as reply
use Rattle.session_rules.specs.declared.deed.Deed.TheVariants.{Counts}
use Rattle.session_rules.specs.declared.deed.Verdict.{Verdict}
use Rattle.session_rules.specs.Issues.{issue}
use Rattle.session_rules.specs.Deeds.{counts_for}
use Rattle.session_rules.specs.Steps.{does, counted}
use Rattle.session_rules.specs.Facts.{Kept}
use Rattle.session_rules.proofs.PartySets.{has_party}
use Rattle.session_spec.specs.Settings.{Setting}
use Rattle.session_spec.specs.Stores.{Store, share_brought, with_rows, with_answer, with_share, with_deed, grown}
use Rattle.session_state.specs.Completions.{last_counted}
use Rattle.session_state.specs.Standings.{setting, rules_of, state, store, delivered, state_then, store_then}
use Rattle.session_state.specs.Wanted.{IsWanted}
use Rattle.session_state.specs.declared.standing.Standing.{Standing}
use Rattle.session_state.proofs.Counting.{more_is}
use Rattle.session_state.proofs.LastShares.{last_is}
use Rattle.session_state.proofs.Takings.{on_err}
use Rattle.session_state.proofs.Onward.{refused, its_deed, ends_state, ends_store, issued_state, issued_store}
use Rattle.session_state.proofs.standing.Standing.deliver.Goals as goal
use Rattle.session_state.proofs.standing.Standing.deliver.Goals.{then-missing-eq0+in_ok-complete, else-missing-eq0}

-- ---- nothing is done

pub returns-in_default-clause-state : goal.returns-in_default-clause-state
returns-in_default-clause-state c =
    let st = c.args.self.now in let share = c.args.share.now in let e = c.verdict_on_share-verdict.ensures in
    (refused st c.verdict_on_share-verdict.result (delivered st share.id share.party (length share.rows)) (share_brought share.rows) e.said (e.refused (sym c.counts.ensures ∙ c.in_default.is))).0

pub returns-in_default-clause-store : goal.returns-in_default-clause-store
returns-in_default-clause-store c =
    let st = c.args.self.now in let share = c.args.share.now in let e = c.verdict_on_share-verdict.ensures in
    (refused st c.verdict_on_share-verdict.result (delivered st share.id share.party (length share.rows)) (share_brought share.rows) e.said (e.refused (sym c.counts.ensures ∙ c.in_default.is))).1

-- ---- the share is wanted

pub missing-requires-clause-first : goal.missing-requires-clause-first
missing-requires-clause-first c =
    let i = c.in-Some.instance in
    (has_party i.set.bits c.args.share.now.party (c.verdict_on_share-verdict.ensures.wanted i (sym c.counts.ensures ∙ c.in-Some.is)).member).0

pub missing-requires-clause-last : goal.missing-requires-clause-last
missing-requires-clause-last c =
    let i = c.in-Some.instance in
    (has_party i.set.bits c.args.share.now.party (c.verdict_on_share-verdict.ensures.wanted i (sym c.counts.ensures ∙ c.in-Some.is)).member).1

pub complete-requires-clause-wanted : goal.complete-requires-clause-wanted
complete-requires-clause-wanted c = c.verdict_on_share-verdict.ensures.wanted c.in-Some.instance (sym c.counts.ensures ∙ c.in-Some.is)

pub count-requires-clause-wanted : goal.count-requires-clause-wanted
count-requires-clause-wanted c = c.verdict_on_share-verdict.ensures.wanted c.in-Some.instance (sym c.counts.ensures ∙ c.in-Some.is)

-- ---- it is counted

adds_more : (w : Setting) (i : Instance) (id p : ℕ) (rows : List (List ℕ)) (h : Store) → i.id ≡ id → missing p i ≢ 0 → with_deed w (Counts i p) (share_brought rows) h ≡ with_rows w id rows h
unfolding with_deed with_share
adds_more w i id p rows h number more = rw (ne_eqb (missing p i) 0 more) (ap (λ (n : ℕ). with_rows w n rows h) number)

adds_last : (w : Setting) (i : Instance) (id p : ℕ) (rows : List (List ℕ)) (h : Store) → i.id ≡ id → missing p i ≡ 0
    → with_deed w (Counts i p) (share_brought rows) h ≡ with_answer w id i.signature (with_rows w id rows h)
unfolding with_deed with_share
adds_last w i id p rows h number last = rw (eq-eqb (missing p i) 0 last) (ap (λ (n : ℕ). with_answer w n i.signature (with_rows w n rows h)) number)

completed : (p : ℕ) (i : Instance) → missing p i ≡ 0 → counted p i ≡ reply.Completed
unfolding counted
completed p i last = rw (eq-eqb (missing p i) 0 last) refl

module _ (st now : Standing) (id p : ℕ) (rows : List (List ℕ)) (i : Instance) (v : Verdict) (k : Kept (rules_of st) (state st)) (want : IsWanted (rules_of st) (state st) id p (length rows) i)
    (said : v ≡ delivered st id p (length rows)) (counts : v ≡ does (counted p i) (Counts i p)) where
  deed : (delivered st id p (length rows)).deed ≡ Counts i p
  deed = its_deed v (delivered st id p (length rows)) (counted p i) (Counts i p) said counts

  more_state : missing p i ≢ 0 → state now ≡ record (state st) { instances = after_share id p (state st).instances } → state now ≡ state_then st (delivered st id p (length rows))
  more_state more e =
      ends_state st now (delivered st id p (length rows)) (Counts i p) (share_brought rows) deed (ne_eqb (missing p i) 0 more)
      (e ∙ sym (more_is st.params (rules_of st) (state st) id p (length rows) i k want more))

  more_store : missing p i ≢ 0 → store now ≡ with_rows (setting st) id rows (store st) → store now ≡ store_then st (delivered st id p (length rows)) (share_brought rows)
  more_store more e =
      ends_store st now (delivered st id p (length rows)) (Counts i p) (share_brought rows) deed (ne_eqb (missing p i) 0 more)
      (e ∙ sym (adds_more (setting st) i id p rows (store st) want.number more))

  last_state : missing p i ≡ 0 → state now ≡ issue (rules_of st) (last_counted (state st) i id p) → state now ≡ state_then st (delivered st id p (length rows))
  last_state last e =
      issued_state st now (delivered st id p (length rows)) (Counts i p) (share_brought rows) deed (eq-eqb (missing p i) 0 last)
      (e ∙ ap (issue (rules_of st)) (sym (last_is st.params (rules_of st) (state st) id p (length rows) i k want last)))

  last_store : missing p i ≡ 0 → state now ≡ state_then st (delivered st id p (length rows))
      → store now ≡ grown (setting st) (state now).instances (with_answer (setting st) id i.signature (with_rows (setting st) id rows (store st))) → store now ≡ store_then st (delivered st id p (length rows)) (share_brought rows)
  last_store last same e =
      issued_store st now (delivered st id p (length rows)) (Counts i p) (share_brought rows) deed (eq-eqb (missing p i) 0 last) same
      (e ∙ ap (grown (setting st) (state now).instances) (sym (adds_last (setting st) i id p rows (store st) want.number last)))

pub returns-in_err-complete-clause-free : goal.returns-in_err-complete-clause-free
returns-in_err-complete-clause-free c =
    let st = c.args.self.now in let share = c.args.share.now in let e = c.verdict_on_share-verdict.ensures in let i = c.in-Some.instance in
    on_err c.from_residual.result ((delivered st share.id share.party (length share.rows)).reply ≡ reply.Completed)
    (ap (λ (z : Verdict). z.reply) (sym e.said ∙ e.counts i (sym c.counts.ensures ∙ c.in-Some.is)) ∙ completed share.party i (sym c.missing.ensures ∙ c.if-missing-eq0.true))

pub returns-clause-state : goal.returns-clause-state
returns-clause-state c =
    let st = c.args.self.now in let share = c.args.share.now in let i = c.in-Some.instance in let v = c.verdict_on_share-verdict in
    let some : counts_for v.result.deed ≡ Some i = sym c.counts.ensures ∙ c.in-Some.is in
    elim c.if-missing-eq0.branch [
      | then-missing-eq0+in_ok-complete w ↦ ap (λ (z : Standing). state z) w.self-is
          ∙ last_state st w.complete.new.self share.id share.party share.rows i v.result c.requires.kept (v.ensures.wanted i some) v.ensures.said (v.ensures.counts i some)
          (sym c.missing.ensures ∙ w.if-missing-eq0.true) w.in_ok-complete.ensures.state
      | else-missing-eq0 w ↦ ap (λ (z : Standing). state z) w.self-is
          ∙ more_state st w.count.new.self share.id share.party share.rows i v.result c.requires.kept (v.ensures.wanted i some) v.ensures.said (v.ensures.counts i some)
          (λ none. w.if-missing-eq0.false (c.missing.ensures ∙ none)) w.count.ensures.state
    ]

pub returns-clause-store : goal.returns-clause-store
returns-clause-store c =
    let st = c.args.self.now in let share = c.args.share.now in let i = c.in-Some.instance in let v = c.verdict_on_share-verdict in
    let some : counts_for v.result.deed ≡ Some i = sym c.counts.ensures ∙ c.in-Some.is in
    elim c.if-missing-eq0.branch [
      | then-missing-eq0+in_ok-complete w ↦
          let last : missing share.party i ≡ 0 = sym c.missing.ensures ∙ w.if-missing-eq0.true in
          let its = last_state st w.complete.new.self share.id share.party share.rows i v.result c.requires.kept (v.ensures.wanted i some) v.ensures.said (v.ensures.counts i some) last w.in_ok-complete.ensures.state in
          ap (λ (z : Standing). store z) w.self-is
          ∙ last_store st w.complete.new.self share.id share.party share.rows i v.result c.requires.kept (v.ensures.wanted i some) v.ensures.said (v.ensures.counts i some) last its w.in_ok-complete.ensures.store
      | else-missing-eq0 w ↦ ap (λ (z : Standing). store z) w.self-is
          ∙ more_store st w.count.new.self share.id share.party share.rows i v.result c.requires.kept (v.ensures.wanted i some) v.ensures.said (v.ensures.counts i some)
          (λ none. w.if-missing-eq0.false (c.missing.ensures ∙ none)) w.count.ensures.store
    ]
