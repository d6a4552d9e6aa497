-- What is printed of a verdict and of a refusal is read back.
use Rattle.std.specs.Prelude.{◌≡◌, ℕ, nat_eq, true, false, List, ◌++◌, Some, codes}
use Rattle.std.specs.List.{starts_with}
use Rattle.rvd_event.specs.declared.verdicts.Verdict.{Verdict}
use Rattle.rvd_event.specs.declared.replies.Refusal.{Refusal}
use Rattle.rvd_event.specs.Verdicts.{has_forms}
use Rattle.rvd_reading.specs.Numbers.{begins_with_digit}
use Rattle.rvd_journal_text.specs.Verdicts.{verdict_text}
use Rattle.rvd_journal_text.specs.Replies.{refusal_text}
use Rattle.rvd_journal_reading.specs.Refusals.{FitsRefusal, refusal_of}
use Rattle.rvd_journal_reading.specs.Verdicts.{FitsVerdict, bare_verdict, verdict_of}

-- where no digit and no comma stand behind it. Of a block, its text tells all but the bytes
pub record VerdictLaw : Type 0 where
  pub verdict : (v : Verdict) (rest : List ℕ) → has_forms v ≡ true → FitsVerdict v → begins_with_digit rest ≡ false → starts_with nat_eq rest (codes ",") ≡ false
      → verdict_of (verdict_text v ++ rest) ≡ Some (bare_verdict v, rest)

-- where no digit stands behind it
pub record RefusalLaw : Type 0 where
  pub refusal : (r : Refusal) (rest : List ℕ) → FitsRefusal r → begins_with_digit rest ≡ false → refusal_of (refusal_text r ++ rest) ≡ Some (r, rest)
