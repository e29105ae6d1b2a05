-- Stack pointers by their places.
use Rattle.std.proofs.Common.{◌≡◌, ℕ, ◌<◌, ap, subst, arith}
use native.Mathlib.Bridge.{le_prop}
use Rattle.machine.specs.declared.pointer.StackPointer.{StackPointer}
use Rattle.machine.specs.Processors.{pointer, raised, lowered}

-- two pointers at one place are one pointer
pub same_pointer : (s t : StackPointer) → s.place ≡ t.place → s ≡ t
same_pointer s t e =
    let made : (n : ℕ) → n < 16 → StackPointer = λ n p. record { place = n; small = p } in
    subst (λ (n : ℕ). (q : n < 16) → s ≡ made n q) e (λ q. ap (made s.place) (le_prop s.small q)) t.small

-- up and then down is where it began
pub up_down : (s : StackPointer) → lowered (raised s) ≡ s
unfolding pointer
up_down s = same_pointer (lowered (raised s)) s (omega (arith, s.small))
