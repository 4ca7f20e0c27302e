-- Facts about any result.
use Rattle.std.proofs.Common.{Result, Ok, Err, IfErr, OnErr, OnOk, subst}
use Rattle.std.specs.Result.{IsErrOf}

pub on_err : {A E : Type 0} (r : Result A E) (Q : Type 0) → Q → OnErr r Q
on_err (Ok x) Q q = tt
on_err (Err e) Q q = q

pub on_ok_then : {A E : Type 0} (r : Result A E) (P Q : Type 0) → (P → Q) → OnOk r P → OnOk r Q
on_ok_then (Ok x) P Q f p = f p
on_ok_then (Err e) P Q f p = tt

-- What any error has, this one has.
pub err_of : {A E : Type 0} (r : Result A E) (e : E) (P : E → Type 0) → IfErr r P → IsErrOf r e → P e
err_of {A} {E} r e P all is = subst (λ (x : Result A E). IfErr x P) is all
