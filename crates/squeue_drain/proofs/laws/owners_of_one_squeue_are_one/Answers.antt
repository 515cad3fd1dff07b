use Rattle.squeue_drain.proofs.OneOwner.{is_named, are_one}
use Rattle.squeue_drain.proofs.laws.owners_of_one_squeue_are_one.Goals as goal

pub returns : goal.returns
returns g c =
    record {
      named = λ s H note o l is n. is_named g.R.Resident s H note o l is n;
      one = λ s H note another o q l is n too m. are_one g.R.Resident s H note another o q l is n too m;
    }
