-- Consequences of an `Ok` and of an `Err`.
use Rattle.std.proofs.Common.{IfOk, OnOk, OnErr}
use Rattle.std.specs.Prelude.{Result, Ok, Err}

pub if_ok_so : {A E : Type 0} (r : Result A E) (P Q : A → Type 0) → IfOk r P → ((x : A) → P x → Q x) → IfOk r Q
if_ok_so (Ok x) P Q is so = so x is
if_ok_so (Err e) P Q is so = tt

pub on_ok_so : {A E : Type 0} (r : Result A E) (P Q : Type 0) → OnOk r P → (P → Q) → OnOk r Q
on_ok_so (Ok x) P Q is so = so is
on_ok_so (Err e) P Q is so = tt

pub on_err_so : {A E : Type 0} (r : Result A E) (P Q : Type 0) → OnErr r P → (P → Q) → OnErr r Q
on_err_so (Ok x) P Q is so = tt
on_err_so (Err e) P Q is so = so is

pub either_way : {A E : Type 0} (r : Result A E) (P Q R : Type 0) → OnOk r P → OnErr r Q → (P → R) → (Q → R) → R
either_way (Ok x) P Q R ok err so other = so ok
either_way (Err e) P Q R ok err so other = other err
