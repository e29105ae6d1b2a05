-- From the two walks to the verdict.
use Rattle.std.proofs.Common.{◌≡◌, ℕ, ◌<◌, ◌≤◌, Bool, true, false, List, [], ◌∷◌, Some, None, Option, Ok, Err, Result, refl, inl, inr, arith}
use Rattle.std.specs.Result.{IsErrAnd}
use Rattle.std.proofs.lemmas.Result.{err_from_is_err_and}
use Rattle.isa.specs.declared.instruction.Instruction.{Instruction}
use Rattle.refusal.specs.declared.refusal.Refusal.{Refusal}
use Rattle.walk.specs.Walk.{Deepest}
use Rattle.vetting.specs.declared.depths.Depths.{Depths}
use Rattle.vetting.specs.declared.rules.Rule.{Rule}
use Rattle.vetting.specs.declared.rules.Rule.TheVariants.{MainWord, MainReturn, MainRegister, HandlerWord, HandlerReturn, HandlerWrite}
use Rattle.vetting.specs.declared.rules.Breach.{Breach}
use Rattle.vetting.specs.Programs.{Program, instruction_at, graph_of, main_breaks, handler_breaks}
use Rattle.vetting.specs.Verdicts.{Test, Breaks, Counted, Broken, FirstBroken, main_test, rule_number, stack_size, reset, vector}
use Rattle.vetting.specs.declared.part.Part.{Part}
use Rattle.vetting.specs.Parts.{PartOf, WordTest, TrueAt, enabling, Tells, UnbrokenBelow, FirstFound}
use Rattle.vetting.specs.declared.sheet.Sheet.{Sheet}
use Rattle.vetting.specs.Judging.{refusal_of, read_program, ProgramRefused, ProgramAnswered, DepthsAlone, DepthsTogether}

-- main's words break main's rules only, the handler's words the handler's
main_low : (handlers : ℕ → Bool) (rule : Rule) (i : Option Instruction) (filled : Bool) → main_breaks handlers rule i filled ≡ true → rule_number rule ≤ 7
main_low handlers rule i filled h = grind arith

handler_high : (handlers ranges : ℕ → Bool) (rule : Rule) (i : Option Instruction) (filled : Bool) → handler_breaks handlers ranges rule i filled ≡ true → 8 ≤ rule_number rule
handler_high handlers ranges rule i filled h = grind arith

-- a rule that is first broken brings its refusal
brings : (p : Program) (rule : Rule) (a : ℕ) → FirstBroken p rule a → ProgramRefused p (refusal_of rule a)
brings p MainWord a f = f
brings p MainReturn a f = f
brings p MainRegister a f = f
brings p HandlerWord a f = f
brings p HandlerReturn a f = f
brings p HandlerWrite a f = f

last_number : (r : Rule) → rule_number r < 11
last_number r = grind arith

-- a part tells what its walk reaches
module _ (p : Program) (start : ℕ) (part : Part) (of : PartOf p.image start part) where
  abbrev by_address : WordTest → Test
  by_address test a = test (instruction_at p a)

  true_breaks : (test : WordTest) (a : ℕ) → TrueAt part test a → Breaks (graph_of p) start (by_address test) a
  true_breaks test a (false, h, t) = ([], (of.walked.empty a).0 h, rw of.same at t)
  true_breaks test a (true, h, t) = let v = (of.walked.filled a).0 h in (v.0 ∷ v.1, v.2, rw of.same at t)

  breaks_true : (test : WordTest) (a : ℕ) → Breaks (graph_of p) start (by_address test) a → (a < 256) × TrueAt part test a
  breaks_true test a ([], v, t) = let h = (of.walked.empty a).1 v in (of.walked.within.0 a h, (false, h, rw of.same t))
  breaks_true test a (r ∷ l, v, t) = let h = (of.walked.filled a).1 (r, l, v) in (of.walked.within.1 a h, (true, h, rw of.same t))

  -- no situation breaks a rule of a number below n
  unbroken_there : (breaks : Rule → WordTest) (n : ℕ) → UnbrokenBelow part breaks n → (rule : Rule) (a : ℕ) → rule_number rule < n →
      Breaks (graph_of p) start (by_address (breaks rule)) a → ⊥
  unbroken_there breaks n below rule a lt b = let h = breaks_true (breaks rule) a b in below.none rule a lt h.0 h.1

-- what a refused program answers
refused_by : (p : Program) (e : Refusal) → ProgramRefused p e → (r : Result Depths Refusal) → IsErrAnd r (λ x. x ≡ e) → ProgramAnswered p r
refused_by p e refused r is = let y = err_from_is_err_and r is in rw (y.1, y.2) refused

module _ (image : List ℕ) (sheet : Sheet) (main : Part) (of : PartOf image reset main) where
  abbrev p : Program
  p = read_program image sheet

  counted : Tells main enabling true → Counted p
  counted on = (on.0, true_breaks p reset main of enabling on.0 on.1)

  not_counted : Tells main enabling false → Counted p → ⊥
  not_counted off c = let h = breaks_true p reset main of enabling c.0 c.1 in off c.0 h.0 h.1

  pub main_refused : (r : Result Depths Refusal) (b : Breach) → IsErrAnd r (λ e. e ≡ refusal_of b.rule b.at) → FirstFound main (main_breaks p.handlers) b → ProgramAnswered p r
  main_refused r b is f =
      let broken = true_breaks p reset main of (main_breaks p.handlers b.rule) b.at f.broken in
      let low = main_low p.handlers b.rule _ _ broken.2 in
      refused_by p _ (brings p b.rule b.at (record {
        broken = inl broken;
        first = λ other a lt br. elim br [
          | inl h ↦ unbroken_there p reset main of (main_breaks p.handlers) _ f.first other a lt h
          | inr h ↦ let high = handler_high p.handlers p.ranges other _ _ h.1.2 in absurd (omega arith)
        ];
      })) r is

  module _ (none : UnbrokenBelow main (main_breaks p.handlers) 11) where
    unbroken_main : (rule : Rule) (a : ℕ) → Breaks (graph_of p) reset (main_test p rule) a → ⊥
    unbroken_main rule a = unbroken_there p reset main of (main_breaks p.handlers) 11 none rule a (last_number rule)

    module _ (off : Tells main enabling false) where
      unbroken_alone : (rule : Rule) (a : ℕ) → Broken p rule a → ⊥
      unbroken_alone rule a (inl h) = unbroken_main rule a h
      unbroken_alone rule a (inr h) = not_counted off h.0

      pub answered_alone : (r : Result Depths Refusal) → DepthsAlone main.reach.depth r → ProgramAnswered p r
      answered_alone r = go main.reach.depth of.walked.depth r
        where
          go : (depth : Option ℕ) → Deepest (graph_of p) reset stack_size depth → (r : Result Depths Refusal) → DepthsAlone depth r → ProgramAnswered p r
          go (Some m) deep (Ok d) e = rw e (record { rules = unbroken_alone; main = deep.1; handler = inl (not_counted off, refl, refl); fits = deep.0 })
          go (Some m) deep (Err r) e = absurd e
          go None deep (Ok d) e = absurd e
          go None deep (Err r) e = rw e (unbroken_alone, inl deep)

    module _ (on : Tells main enabling true) (handler : Part) (entered : PartOf image vector handler) where
      pub handler_refused : (r : Result Depths Refusal) (b : Breach) → IsErrAnd r (λ e. e ≡ refusal_of b.rule b.at) → FirstFound handler (handler_breaks p.handlers p.ranges) b → ProgramAnswered p r
      handler_refused r b is f =
          refused_by p _ (brings p b.rule b.at (record {
            broken = inr (counted on, true_breaks p vector handler entered (handler_breaks p.handlers p.ranges b.rule) b.at f.broken);
            first = λ other a lt br. elim br [
              | inl h ↦ unbroken_main other a h
              | inr h ↦ unbroken_there p vector handler entered (handler_breaks p.handlers p.ranges) _ f.first other a lt h.1
            ];
          })) r is

      module _ (others : UnbrokenBelow handler (handler_breaks p.handlers p.ranges) 11) where
        unbroken_both : (rule : Rule) (a : ℕ) → Broken p rule a → ⊥
        unbroken_both rule a (inl h) = unbroken_main rule a h
        unbroken_both rule a (inr h) = unbroken_there p vector handler entered (handler_breaks p.handlers p.ranges) 11 others rule a (last_number rule) h.1

        pub answered_together : (r : Result Depths Refusal) → DepthsTogether main.reach.depth handler.reach.depth r → ProgramAnswered p r
        answered_together r = go main.reach.depth handler.reach.depth of.walked.depth entered.walked.depth r
          where
            go : (m h : Option ℕ) → Deepest (graph_of p) reset stack_size m → Deepest (graph_of p) vector stack_size h →
                (r : Result Depths Refusal) → DepthsTogether m h r → ProgramAnswered p r
            go (Some m) (Some h) x y (Ok d) e = rw e.1 (record { rules = unbroken_both; main = x.1; handler = inr (counted on, y.1, refl); fits = e.0 })
            go (Some m) (Some h) x y (Err r) e =
                let f = x.1.found in
                let g = y.1.found in
                rw e.1 (unbroken_both, inr (counted on, (f.0, f.1, f.2, (g.0, g.1, g.2, omega (arith, f.3, g.3, e.0)))))
            go (Some m) None x y (Ok d) e = absurd e
            go (Some m) None x y (Err r) e =
                let f = x.1.found in
                rw e (unbroken_both, inr (counted on, (f.0, f.1, f.2, (y.0, y.1, y.2, omega (arith, y.3)))))
            go None h x y (Ok d) e = absurd e
            go None h x y (Err r) e = rw e (unbroken_both, inl x)
