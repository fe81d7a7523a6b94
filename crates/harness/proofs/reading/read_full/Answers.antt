use Rattle.std.proofs.Common.{◌≡◌, ◌+◌, ◌++◌, ◌≤◌, ℕ, List, length, take, subst, sym, ap, ◌∙◌, rules}
use Rattle.std.proofs.Math.Seq.{take-append-add}
use Rattle.std.proofs.lemmas.List.{length-take-le, take-append-le}
use Rattle.std.specs.Io.KnownBytes.{Consumes}
use Rattle.std.proofs.KnownBytes.{Consumes-trans}
use Rattle.harness.proofs.reading.read_full.Goals as goal

-- what a buffer begins with once the part behind its first k bytes was written
front : (k n : ℕ) (xs ys rest : List ℕ) → k ≤ length xs → n ≤ length ys → take (k + n) (take k xs ++ (ys ++ rest)) ≡ take k xs ++ take n ys
front k n xs ys rest h i =
    ap (λ (j : ℕ). take (j + n) (take k xs ++ (ys ++ rest))) (sym (length-take-le k xs h))
    ∙ take-append-add (take k xs) (ys ++ rest) n
    ∙ ap (λ (l : List ℕ). take k xs ++ l) (take-append-le n ys rest i)

pub loop-got-preserved : goal.loop-got-preserved
loop-got-preserved g c =
    let read = c.in_ok-n.ensures in
    record {
      within = search rules;
      taken =
          subst (λ (l : List ℕ). Consumes (g.R.Read.remaining c.args.reader.now) (g.R.Read.remaining c.read.new.self) l)
          (sym (front c.loop-got.got c.in_ok-n.n c.loop-got.place c.read.new.buf _ c.loop-got.invariant.within read.bound.0))
          (Consumes-trans _ (g.R.Read.remaining c.loop-got.reader) _ _ _ c.loop-got.invariant.taken read.bytes.0);
    }
