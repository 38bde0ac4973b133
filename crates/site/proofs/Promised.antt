-- A call that leaves and answers what the rules say keeps what it promises.
use Rattle.std.proofs.Common.{◌≡◌, ℕ, Ok, Err, Result, sym, refl, ap, ◌∙◌, subst}
use Rattle.records.specs.declared.records.Flush.{Flush}
use Rattle.records.specs.declared.fault.SiteFault.{SiteFault}
use Rattle.rules.specs.Site.{State, Outcome, outcome}
use Rattle.rules.specs.Calls.{read_call, begin_call}
use Rattle.rules.specs.Replies.{Read, Begin, Commit, Reply, read_reply, begin_reply, plain_reply}
use Rattle.rules.specs.Carry.{Continues}
use Rattle.rules.specs.declared.answer.Source.{Source}
use Rattle.rules.proofs.Carried.{read_carried, begin_carried, commit_carried}
use Rattle.site.specs.declared.slip.Slip.{Slip}
use Rattle.site.specs.declared.slip.Returned.{Returned}
use Rattle.site.specs.Promises.{source_of, cell_or, read_shown}
use Rattle.site.specs.Slips.{slip_given, flush_given, begin_given, slip_back, fault_of, Settled, settled, commit_flush, commit_given}

given_is : (r : Result Flush SiteFault) → flush_given (slip_given r) ≡ r
given_is (Ok f) = refl
given_is (Err e) = refl

back_is : (n : Slip) (r : Result (Unit {0}) SiteFault) → fault_of (slip_back n r) ≡ r
back_is n (Ok x) = refl
back_is n (Err e) = refl

-- what a begin and a commit answer, without the slip
pub begun_is : {V : Type 0} (s s' : State V) (k i : ℕ) (r : Result Slip SiteFault) → outcome s' r ≡ begin_given s k i → outcome s' (flush_given r) ≡ begin_call s k i
begun_is {V} s s' k i r e =
    ap (λ (o : Outcome V Slip). outcome o.state (flush_given o.answer)) e ∙ ap (outcome (begin_call s k i).state) (given_is (begin_call s k i).answer)

pub settled_is : {V : Type 0} (blank : V) (s s' : State V) (n : Slip) (r : Result (Unit {0}) Returned) → settled s' r ≡ commit_given blank s n
    → outcome s' (fault_of r) ≡ commit_flush blank s n.flush
settled_is {V} blank s s' n r e =
    ap (λ (o : Settled V). outcome o.state (fault_of o.answer)) e
    ∙ ap (outcome (commit_flush blank s n.flush).state) (back_is n (commit_flush blank s n.flush).answer)

module _ {V : Type 0} (blank : V) (s s' : State V) where
  -- by what a read answered and left in the caller's cell
  shown_is : (i : ℕ) (old : V) (r : Result (V × Source) SiteFault) → read_shown i (cell_or old r) (source_of r) ≡ read_reply i r
  shown_is i old (Ok x) = refl
  shown_is i old (Err e) = refl

  pub read_upheld : (k i : ℕ) (old v : V) (a : Result Source SiteFault) (r : Result (V × Source) SiteFault) → a ≡ source_of r → v ≡ cell_or old r → outcome s' r ≡ read_call s k i
      → Continues blank s (Read k i) s' (read_shown i v a)
  read_upheld k i old v a r ea ev e =
      subst (λ (x : Reply V). Continues blank s (Read k i) s' x)
      (sym (ap (λ x. read_shown i x a) ev ∙ ap (read_shown i (cell_or old r)) ea ∙ shown_is i old r)) (read_carried blank s s' k i r e)

  pub begin_upheld : (k i : ℕ) (r : Result Slip SiteFault) → outcome s' r ≡ begin_given s k i → Continues blank s (Begin k i) s' (begin_reply i (flush_given r))
  begin_upheld k i r e = begin_carried blank s s' k i (flush_given r) (begun_is s s' k i r e)

  pub commit_upheld : (n : Slip) (r : Result (Unit {0}) Returned) → settled s' r ≡ commit_given blank s n → Continues blank s (Commit n.flush) s' (plain_reply n.flush.cell (fault_of r))
  commit_upheld n r e = commit_carried blank s s' n.flush (fault_of r) (settled_is blank s s' n r e)
