use Rattle.std.proofs.Common.{rules, tests, ℕ, Bool, List}
use Rattle.protocol.specs.Vote.{Limits}
use Rattle.values.specs.Values.{value_of}
use Rattle.network.specs.Calls.{limits_in, faulty_in, memory_in}
use Rattle.network.specs.Memory.{Agreement}
use Rattle.network.specs.Calls.{AgreedBy, NotAgreed}
use Rattle.network.proofs.Delivering.{agreement-stands, agreed_on}
use Rattle.network.proofs.Showing.{first_mapped}
use Rattle.network.proofs.state.Network.agreed.Goals as goal

pub returns : goal.returns
returns c =
    let l : Limits = limits_in c.args.self.now in
    let faulty : ℕ → Bool = faulty_in c.args.self.now in
    let mem : List ℕ = memory_in c.args.self.now in
    let stands : Agreement l faulty mem =
    agreement-stands c.args.self.now.limits faulty mem c.args.self.now.few c.args.self.now.runs in
    record {
      is = agreed_on c.args.self.now.limits faulty mem stands c.find_map.result (first_mapped _ _
          (λ i x. AgreedBy l faulty mem i (value_of x)) (NotAgreed l faulty mem)
          (λ a r q k. search (rules, tests)) (λ i x h. search (rules, tests)) (λ i h. search (rules, tests)) _
          c.find_map.result c.find_map.ensures.runs);
      stands = stands;
    }
