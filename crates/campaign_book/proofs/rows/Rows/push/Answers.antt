use Rattle.std.proofs.Common.{◌≡◌, ◌≢◌, ℕ, List, [], ◌∷◌, ◌++◌, ⊎_elim, Bool, true, false, cond, eq-eqb, ne_eqb, Option, Some, None, is_some, nat_cmp, refl, sym, ap, ◌∙◌, arith}
use Rattle.std.specs.Option.{option_or}
use Rattle.std.specs.BTreeMap as tree
use Rattle.std.proofs.lemmas.Bool.{cases_eq}
use Rattle.std.proofs.lemmas.Bool.Decides.{nat_tests}
use Rattle.std.proofs.lemmas.List.Folds.{find-append}
use Rattle.campaign_book.specs.declared.row.Row.{Row}
use Rattle.campaign_book.specs.Rows.{number_of, is_at, row_at, has_number}
use Rattle.campaign_book.proofs.rows.Rows.push.Goals as goal

no_row : (o : Option Row) → is_some o ≡ false → o ≡ None
no_row None e = refl
no_row (Some r) e = absurd (cc)

or_none : (o : Option Row) → option_or o None ≡ o
or_none None = refl
or_none (Some r) = refl

at_same : (n : ℕ) → tree.is_at (nat_cmp n) n ≡ true
at_same n = grind (arith, nat_tests)

at_other : (n k : ℕ) → n ≢ k → tree.is_at (nat_cmp n) k ≡ false
at_other n k h = grind (arith, nat_tests)

-- With one more row, the map still has the first row of each number.
step : (k : ℕ) (rows : List Row) (row : Row) (g : Option Row) → has_number (number_of row) rows ≡ false → g ≡ row_at k rows → cond (tree.is_at (nat_cmp (number_of row)) k) (Some row) g ≡ row_at k (rows ++ row ∷ [])
step k rows row g new is = ⊎_elim here there (cases_eq (number_of row) k)
  where
    all : row_at k (rows ++ row ∷ []) ≡ option_or (row_at k rows) (row_at k (row ∷ []))
    all = find-append (is_at k) rows (row ∷ [])

    here : number_of row ≡ k → cond (tree.is_at (nat_cmp (number_of row)) k) (Some row) g ≡ row_at k (rows ++ row ∷ [])
    here e =
        let none : row_at k rows ≡ None = ap (λ j. row_at j rows) (sym e) ∙ no_row (row_at (number_of row) rows) new in
        let test = ap (λ j. tree.is_at (nat_cmp (number_of row)) j) (sym e) ∙ at_same (number_of row) in
        ap (λ (b : Bool). cond b (Some row) g) test ∙ sym (all ∙ ap (λ o. option_or o (row_at k (row ∷ []))) none ∙ ap (λ (b : Bool). cond b (Some row) None) (eq-eqb (number_of row) k e))

    there : number_of row ≢ k → cond (tree.is_at (nat_cmp (number_of row)) k) (Some row) g ≡ row_at k (rows ++ row ∷ [])
    there ne = ap (λ (b : Bool). cond b (Some row) g) (at_other (number_of row) k ne) ∙ is ∙ sym (all ∙ ap (λ (b : Bool). option_or (row_at k rows) (cond b (Some row) None)) (ne_eqb (number_of row) k ne) ∙ or_none (row_at k rows))

pub invariant_of-self-2 : goal.invariant_of-self-2
invariant_of-self-2 c = λ k.
    let rows = c.self.inside.list.items in
    let row = c.args.row in
    let g = tree.get nat_cmp c.self.inside.places k in
    let new : has_number (number_of row) rows ≡ false = ap (λ rs. has_number (number_of row) rs) c.self.view_is ∙ c.requires in
    let items : c.push_reserved.new.self.items ≡ rows ++ row ∷ [] = c.push_reserved.ensures.items ∙ ap (λ rs. rs ++ row ∷ []) c.in_ok-reserve.ensures.items in
    c.in-Ok.ensures.updates.0 k ∙ ap (λ n. cond (tree.is_at (nat_cmp n) k) (Some row) g) c.number.ensures ∙ step k rows row g new (c.self.invariant k) ∙ ap (row_at k) (sym items)
