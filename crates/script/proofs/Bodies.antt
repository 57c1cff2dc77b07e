-- What reading a body keeps, line by line.
use Rattle.std.proofs.Common.{◌≡◌, ℕ, ◌+◌, ◌<◌, Bool, true, false, cond, ◌&&◌, ltb, leb, List, [], ◌∷◌, length, drop, Some, None, Ok, Err, Option, Result, sym, refl, ap, ◌∙◌, subst, arith}
use Rattle.std.proofs.lemmas.List.{length-drop}
use Rattle.std.proofs.lemmas.Bool.{ltb-true}
use Rattle.lines.specs.declared.forms.Form.{Form}
use Rattle.lines.specs.declared.forms.Form.TheVariants.{Job, Fail, Make, Done, Wait}
use Rattle.lines.specs.declared.place.Place.{Place}
use Rattle.lines.specs.Faults.{Fault, blamed}
use Rattle.lines.specs.Words.{before}
use Rattle.tree.specs.Growth.{Growth, job, make, done, closed, childless, finish, ended}
use Rattle.tree.specs.Nodes.{total}
use Rattle.script.specs.Reading.{then, grow, past, reading}
use Rattle.script.specs.declared.faults.ScriptFault.{ScriptFault}
use Rattle.script.specs.Steps.{Within, line_at, Line, Ends, Next, Stopped, Looked, Went, Grown, Closed, Whole, AtEnd}
use Rattle.tree.specs.declared.tree.Tree.{Tree}
use Rattle.script.specs.Values.{script_values}
use Rattle.script.proofs.Onward.{reading_line, reading_end, past_inside}

-- two forms of one line are the same
pub one_form : (text : List ℕ) (p : Place) (f h : Form) → Line text p f → Line text p h → f ≡ h
one_form text p f h a b = let e = a.1 in let k = b.1 in cc

-- where the text ends, there is no line
pub no_line : (text : List ℕ) (p : Place) (f : Form) → Ends text p → Line text p f → ⊥
no_line text p f e line =
    omega (arith, ltb-true (before 10 (drop p.byte text)) (length (drop p.byte text)) line.0, length-drop p.byte text)

-- the place moves behind the line that was looked at
pub moved : (text : List ℕ) (p q : Place) (f : Form) (o : Option Form) → Line text p f → Next text p (Ok o) q → q ≡ past p (line_at text p)
moved text p q f None line h = absurd (no_line text p f h.0 line)
moved text p q f (Some k) line h = h.1

pub went_on : (text : List ℕ) (g h k : Growth) (p q r : Place) → Went text g p h q → Went text h q k r → Went text g p k r
went_on text g h k p q r a b =
    record { same = a.same ∙ b.same; within = b.within; forward = omega (arith, a.forward, b.forward) }

-- one line
module _ (text : List ℕ) (g : Growth) (p : Place) (f : Form) (line : Line text p f) where
  pub line_went : (h : Growth) (q : Place) → Within text p → q ≡ past p (line_at text p) → grow f g ≡ Ok h → Went text g p h q
  line_went h q w e k =
      subst (Went text g p h) (sym e) (record {
        same = reading_line text p g f line ∙ ap (λ r. then (blamed p r) (λ h. reading text h (past p (line_at text p)))) k;
        within = past_inside text p line.0 w;
        forward = omega arith;
      })

  pub line_fault : (v : Fault) → blamed p (grow f g) ≡ Err v → reading text g p ≡ Err v
  line_fault v e = reading_line text p g f line ∙ ap (λ r. then r (λ h. reading text h (past p (line_at text p)))) e

-- a test that let a result through
pub passed : {X : Type 0} (b : Bool) (r : Result X ℕ) (n : ℕ) (x : X) → cond b r (Err n) ≡ Ok x → r ≡ Ok x
passed true r n x e = e
passed false r n x e = absurd (let z : ◌≡◌ {A = ℕ} 0 1 = cc in omega arith)

pub tested : {X : Type 0} (b : Bool) (r : Result X ℕ) (n : ℕ) (x : X) → cond b r (Err n) ≡ Ok x → b ≡ true
tested true r n x e = refl
tested false r n x e = absurd (let z : ◌≡◌ {A = ℕ} 0 1 = cc in omega arith)

pub turned : {X : Type 0} (b : Bool) (r : Result X ℕ) (n : ℕ) (x : X) → cond b (Err n) r ≡ Ok x → r ≡ Ok x
turned true r n x e = absurd (let z : ◌≡◌ {A = ℕ} 0 1 = cc in omega arith)
turned false r n x e = e

pub untested : {X : Type 0} (b : Bool) (r : Result X ℕ) (n : ℕ) (x : X) → cond b (Err n) r ≡ Ok x → b ≡ false
untested true r n x e = absurd (let z : ◌≡◌ {A = ℕ} 0 1 = cc in omega arith)
untested false r n x e = refl

-- the makes around, in a result
outer_of : {g : Growth} (h : Growth) → ◌≡◌ {A = Result Growth ℕ} (Ok g) (Ok h) → h.outer ≡ g.outer
outer_of {g} h e = let z : g ≡ h = cc in ap (λ (k : Growth). k.outer) (sym z)

job_outer : (fails : Bool) (d : ℕ) (g h : Growth) → job fails d g ≡ Ok h → h.outer ≡ g.outer
job_outer fails d g h e =
    let a = passed (leb 1 d && leb d 999) _ 5 h e in
    let b = passed (ltb (length g.nodes) 200) _ 7 h a in
    let c = passed (leb (total g.nodes + d) 20000) _ 8 h b in
    outer_of h c

-- a line that is no make and no `done` leaves the makes around
pub same_outer : (f : Form) (g h : Growth) → (f ≡ Make → ⊥) → (f ≡ Done → ⊥) → grow f g ≡ Ok h → h.outer ≡ g.outer
same_outer (Job d) g h m n e = job_outer false d g h e
same_outer (Fail d) g h m n e = job_outer true d g h e
same_outer Make g h m n e = absurd (m refl)
same_outer Done g h m n e = absurd (n refl)
same_outer Wait g h m n e = outer_of h e

-- a make's line puts its make around
pub make_outer : (g h : Growth) → make g ≡ Ok h → (h.outer ≡ g.make ∷ g.outer) × (length g.outer < 7)
make_outer g h e =
    let a = passed (ltb (length g.outer) 7) _ 6 h e in
    let b = passed (ltb (length g.nodes) 200) _ 7 h a in
    (outer_of h b, ltb-true (length g.outer) 7 (tested (ltb (length g.outer) 7) _ 6 h e))

-- `done` takes the make around away
pub done_outer : (g h : Growth) → done g ≡ Ok h → (m : ℕ) × (g.outer ≡ m ∷ h.outer)
done_outer g h e = from g.outer e
  where
    from : (ms : List ℕ) → closed g ms ≡ Ok h → (m : ℕ) × (ms ≡ m ∷ h.outer)
    from [] e = absurd (let z : ◌≡◌ {A = ℕ} 0 1 = cc in omega arith)
    from (m ∷ ms) e = (m, ap (λ l. m ∷ l) (sym (outer_of h (turned (childless g) _ 10 h e))))

-- with a nested make open, the end of the text is a fault
pub end_nested : (g : Growth) → 0 < length g.outer → finish g ≡ Err 9
end_nested g h = from g.outer h
  where
    from : (ms : List ℕ) → 0 < length ms → ended g ms ≡ Err 9
    from [] l = absurd (omega arith)
    from (m ∷ ms) l = refl

-- with none open, `done` is a fault
pub done_top : (g : Growth) → length g.outer ≡ 0 → done g ≡ Err 9
done_top g h = from g.outer h
  where
    from : (ms : List ℕ) → length ms ≡ 0 → closed g ms ≡ Err 9
    from [] l = refl
    from (m ∷ ms) l = absurd (omega arith)

-- the line that was looked at is the one that is read
pub turn : (text look-text line-text : List ℕ) (p line-p q : Place) (f : Form) (seen read : Option Form) → look-text ≡ text → line-text ≡ look-text → line-p ≡ p → seen ≡ Some f → Looked look-text p (Ok seen) → Next line-text line-p (Ok read) q → Line text p f × (f ≡ Done → ⊥) × (q ≡ past p (line_at text p))
turn text look-text line-text p line-p q f seen read et el ep es look next =
    let here : Looked text p (Ok (Some f)) = subst (λ t. Looked t p (Ok (Some f))) et (subst (λ o. Looked look-text p (Ok o)) es look) in
    let line : Next text p (Ok read) q = subst (λ t. Next t p (Ok read) q) (el ∙ et) (subst (λ r. Next line-text r (Ok read) q) ep next) in
    (here.0, here.1, moved text p q f read here.0 line)

-- the line that ends a nested make's body
pub close_read : (text : List ℕ) (g : Growth) (p q : Place) (f : Form) (read : Option Form) → Within text p → Stopped text p → read ≡ Some f → Next text p (Ok read) q → (r : Result (Unit {0}) ScriptFault) (h : Growth) → Grown (grow f g) p r h → Closed text g p r h q
close_read text g p q f read w stop is next (Ok _) h grown =
    let line : Next text p (Ok (Some f)) q = subst (λ o. Next text p (Ok o) q) is next in
    (line_went text g p f line.0 h q w line.1 grown, done_outer g h (ap (λ k. grow k g) (sym (stop f line.0)) ∙ grown))
close_read text g p q f read w stop is next (Err e) h grown =
    let line : Next text p (Ok (Some f)) q = subst (λ o. Next text p (Ok o) q) is next in
    line_fault text g p f line.0 (script_values e) grown

pub tail_same : {x y : ℕ} {xs ys zs : List ℕ} → zs ≡ x ∷ xs → zs ≡ y ∷ ys → xs ≡ ys
tail_same {x} {y} {xs} {ys} {zs} a b = cc

-- the end of the text, once its lines are read
pub whole_end : (text : List ℕ) (g h : Growth) (p q : Place) → reading text g p ≡ reading text h q → Ends text q → (r : Result Tree ScriptFault) → AtEnd (finish h) q r → Whole text g p r
whole_end text g h p q same end (Ok t) said = same ∙ reading_end text q h end ∙ ap (blamed q) said
whole_end text g h p q same end (Err e) said = same ∙ reading_end text q h end ∙ said

-- the top make is not closed by `done`
pub top_stays : (g h : Growth) (f : Form) → length g.outer ≡ 0 → f ≡ Done → grow f g ≡ Ok h → ⊥
top_stays g h f none is e =
    let bad : ◌≡◌ {A = Result Growth ℕ} (Err 9) (Ok h) = sym (done_top g none) ∙ ap (λ k. grow k g) (sym is) ∙ e in
    let z : ◌≡◌ {A = ℕ} 0 1 = cc in omega arith
