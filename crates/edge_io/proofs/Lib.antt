pub mod AppendsLaws
pub mod CountsLaws
