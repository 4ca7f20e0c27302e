-- Steps up the superclasses of a class.
use Rattle.std.proofs.Common.{◌≡◌, ℕ, zero, suc, ◌-◌, ◌<◌, List, [], ◌∷◌, Some, None, refl, sub-one, arith}
use Rattle.jvms_program.specs.declared.program.Class.{Class}
use Rattle.jvms_program.specs.Program.{class_named}
use Rattle.jvms_program.specs.Resolution.{chain_within}

pub nowhere : (most : ℕ) (program : List Class) (name : List ℕ) → most ≡ 0 → chain_within most program name ≡ []
unfolding chain_within
nowhere most program name h = rw h refl

pub missing : (most : ℕ) (program : List Class) (name : List ℕ) → None ≡ class_named program name → chain_within most program name ≡ []
unfolding chain_within
missing zero program name h = refl
missing (suc most) program name h = rw (← h) refl

pub top : (most : ℕ) (program : List Class) (name other : List ℕ) (c : Class) → 0 < most → Some c ≡ class_named program name → None ≡ c.superclass
    → chain_within most program name ≡ c ∷ chain_within 0 program other
unfolding chain_within
top zero program name other c m h s = absurd (omega arith)
top (suc most) program name other c m h s = rw (← h) (rw (← s) refl)

pub next : (most : ℕ) (program : List Class) (name super : List ℕ) (c : Class) → 0 < most → Some c ≡ class_named program name → Some super ≡ c.superclass
    → chain_within most program name ≡ c ∷ chain_within (most - 1) program super
unfolding chain_within
next zero program name super c m h s = absurd (omega arith)
next (suc most) program name super c m h s = rw (← h) (rw (← s) (rw sub-one refl))

pub ruleset ways = (nowhere, missing, top, next)
