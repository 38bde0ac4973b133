use Rattle.std.proofs.Common.{Ok, Err, Result}
use Rattle.std.specs.Result.{IsErr, OnOk}
use Rattle.sheet.proofs.reader.read_line.Goals as goal

-- nothing is said of the place of a refused line
refused : {T E : Type 0} (r : Result T E) (P : Type 0) → IsErr r → OnOk r P
refused (Ok x) P e = cc
refused (Err x) P e = tt

pub returns-in_err-field-clause-moved : goal.returns-in_err-field-clause-moved
returns-in_err-field-clause-moved c = refused _ _ c.from_residual.ensures.0

pub returns-in_err-field-2-clause-moved : goal.returns-in_err-field-2-clause-moved
returns-in_err-field-2-clause-moved c = refused _ _ c.from_residual-in_err-field-2.ensures.0

pub returns-in_err-field-3-clause-moved : goal.returns-in_err-field-3-clause-moved
returns-in_err-field-3-clause-moved c = refused _ _ c.from_residual-in_err-field-3.ensures.0

pub returns-in_err-field-4-clause-moved : goal.returns-in_err-field-4-clause-moved
returns-in_err-field-4-clause-moved c = refused _ _ c.from_residual-in_err-field-4.ensures.0

pub returns-in_err-field-5-clause-moved : goal.returns-in_err-field-5-clause-moved
returns-in_err-field-5-clause-moved c = refused _ _ c.from_residual-in_err-field-5.ensures.0
