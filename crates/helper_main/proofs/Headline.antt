-- What was written where a run is done is the report of calls that keep the headline; and when a work is done.
use Rattle.std.proofs.Common.{◌≡◌, subst, refl, ℕ, true, false, inl, inr, List, Option, Some, None, Result, Ok, Err, arith}
use Rattle.std.proofs.lemmas.Bool.{both_ways}
use Rattle.std.specs.Io.KnownBytes.{Appends}
use Rattle.edge_io.specs.Faults.{HasFault}
use Rattle.session_script.specs.Asked.{Asked}
use Rattle.session_script.specs.Scripts.{script, Refusal}
use Rattle.run_report.specs.Reports.{report}
use Rattle.headline.specs.History.{history}
use Rattle.headline.proofs.Histories.{histories_keep_it}
use Rattle.helper_main.specs.declared.status.Status.{Status}
use Rattle.helper_main.specs.declared.status.Status.TheVariants.{Done, Usage, Script, Read, Write, Memory}
use Rattle.helper_main.specs.declared.work.Work.{Work}
use Rattle.helper_main.specs.declared.work.Work.TheVariants.{Run}
use Rattle.helper_main.specs.Works.{takes, owed, is_done, text_for}
use Rattle.helper_main.specs.Runs.{serial_report}
use Rattle.helper_main.specs.Owed.{Serves, Reports, Refuses, ReadsWhole, KeepsHeadline, HasHeadline, HoldsScript, IsDoneOr}
use Rattle.helper_main.proofs.Taken.{taken-free}

-- ---- the headline

done_taken : (a : Asked) → is_done (Ok a) ≡ true → takes a ≡ true
unfolding is_done
done_taken a e = e

owed_report : (a : Asked) → takes a ≡ true → owed Run (Ok a) ≡ report a (history a)
unfolding owed text_for serial_report
owed_report a e = rw e refl

refused_undone : (refusal : Refusal) → is_done (Err refusal) ≡ true → ⊥
unfolding is_done
refused_undone refusal done = both_ways false refl done

keeps_by : (bytes : List ℕ) (left old new : Option (List ℕ)) (said : Result Asked Refusal) → ReadsWhole bytes left → script bytes ≡ said → is_done said ≡ true → Appends old new (owed Run said)
    → KeepsHeadline bytes left old new
keeps_by bytes left old new (Err refusal) whole e done written = absurd (refused_undone refusal done)
keeps_by bytes left old new (Ok a) whole e done written =
    let taken = done_taken a done in
    record {
      asked = a;
      entries = history a;
      read = whole;
      spelled = e;
      written = subst (λ (z : List ℕ). Appends old new z) (owed_report a taken) written;
      headline = histories_keep_it bytes a e (taken-free a taken);
    }

pub has_headline : (left left' old new : Option (List ℕ)) → Reports Run left left' old new → HasHeadline left left' old new
has_headline None left' old new r = tt
has_headline (Some bytes) left' old new r = keeps_by bytes left' old new (script bytes) r.0 refl r.1 r.2

-- ---- when a work is done

refused_never : (work : Work) (left left' old new : Option (List ℕ)) → HoldsScript left → Refuses work left left' old new → ⊥
refused_never work None left' old new holds r = holds
refused_never work (Some bytes) None old new holds (inl r) = r.0
refused_never work (Some bytes) (Some rest) old new holds (inl r) = let few = holds.0 in let more = r.0 in omega (arith, few, more)
refused_never work (Some bytes) left' old new holds (inr r) = both_ways (is_done (script bytes)) r.1 holds.1

pub completes : (work : Work) (status : Status) (left left' old new : Option (List ℕ)) (reads reads' writes writes' : ℕ) → Serves work status left left' old new
    → (status ≡ Read → HasFault reads reads') → (status ≡ Write → HasFault writes writes')
    → HoldsScript left → (HasFault reads reads' → ⊥) → (HasFault writes writes' → ⊥) → IsDoneOr status
completes work Done left left' old new reads reads' writes writes' serves read write holds no_read no_write = inl refl
completes work Usage left left' old new reads reads' writes writes' serves read write holds no_read no_write = absurd serves
completes work Script left left' old new reads reads' writes writes' serves read write holds no_read no_write = absurd (refused_never work left left' old new holds serves)
completes work Read left left' old new reads reads' writes writes' serves read write holds no_read no_write = absurd (no_read (read refl))
completes work Write left left' old new reads reads' writes writes' serves read write holds no_read no_write = absurd (no_write (write refl))
completes work Memory left left' old new reads reads' writes writes' serves read write holds no_read no_write = inr refl
