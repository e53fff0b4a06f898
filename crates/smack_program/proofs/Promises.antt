use Rattle.std.specs.Prelude.{Result, Ok, Err, OnOk, OnErr}

-- what holds of an answer's fault, where it holds whatever the answer is
pub at_fault : {A E : Type 0} (r : Result A E) (P : Type 0) → P → OnErr r P
at_fault (Ok x) P p = tt
at_fault (Err e) P p = p

-- what follows from what an answer promises where it is Ok, and where it is a fault
pub then_ok : {A E : Type 0} (r : Result A E) (P Q : Type 0) → (P → Q) → OnOk r P → OnOk r Q
then_ok (Ok x) P Q f p = f p
then_ok (Err e) P Q f p = tt

pub then_fault : {A E : Type 0} (r : Result A E) (P Q : Type 0) → (P → Q) → OnErr r P → OnErr r Q
then_fault (Ok x) P Q f p = tt
then_fault (Err e) P Q f p = f p
