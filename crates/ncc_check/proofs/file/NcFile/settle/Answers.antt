use Rattle.std.proofs.Common.{ap, length, arith}
use Rattle.std.proofs.Math.Logic.{∥∥₁_map}
use Rattle.ncc_check.specs.Checks.{StandsIn}
use Rattle.ncc_check.specs.Told.{tells_header}
use Rattle.ncc_store.specs.StoreLaws.{untold}
use Rattle.ncc_check.proofs.file.NcFile.settle.Goals as goal

pub invariant_of-self-in-Err : goal.invariant_of-self-in-Err
invariant_of-self-in-Err g c =
    let x = c.args.self.now in
    record {
      stands = ∥∥₁_map x.stands (λ (st : StandsIn (tells_header g.S.Store.tells_bytes x.must_reopen) (g.S.Store.bytes x.store) x.schema x.placed). record {
        header = st.header;
        begun = st.begun;
        schema_is = st.schema_is;
        placed_is = st.placed_is;
        begins = λ told. untold told;
        length_is = λ told. untold told;
      });
      long = λ told. omega (arith, x.long told, ap length c.sync.ensures.unmoved.same);
    }
